use Rattle.base_syntax.proofs.Steps.{group_step, group_stop}
use Rattle.part_field.proofs.Steps.{reading}
use Rattle.header_picture.specs.IntraOnly.{read_intra_only}
use Rattle.header_picture.proofs.Records.{refresh_fits, intra_only_read}
use Rattle.header_picture.proofs.parse_intra_only.Goals as goal

pub returns-in_err-c : goal.returns-in_err-c
unfolding read_intra_only
returns-in_err-c c = search group_stop

pub returns-in_err-color : goal.returns-in_err-color
unfolding read_intra_only
returns-in_err-color c = search (group_step, group_stop)

pub returns-in_err-refresh : goal.returns-in_err-refresh
unfolding read_intra_only
returns-in_err-refresh c = search (reading, group_step)

pub overflow_cast-slots : goal.overflow_cast-slots
overflow_cast-slots c = search refresh_fits

pub returns-in_err-sizes : goal.returns-in_err-sizes
unfolding read_intra_only
returns-in_err-sizes c = search (reading, group_step, group_stop)

pub returns : goal.returns
unfolding read_intra_only
returns c = search (reading, group_step, intra_only_read)
