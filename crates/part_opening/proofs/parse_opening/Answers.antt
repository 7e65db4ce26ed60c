use Rattle.base_syntax.proofs.Steps.{group_step, group_stop}
use Rattle.part_field.proofs.Steps.{reading}
use Rattle.part_opening.specs.Opening.{read_opening}
use Rattle.part_opening.proofs.Records.{slot_fits, opening_read}
use Rattle.part_opening.proofs.parse_opening.Goals as goal

pub returns-in_err-profile : goal.returns-in_err-profile
unfolding read_opening
returns-in_err-profile c = search group_stop

pub returns-in_err-show : goal.returns-in_err-show
unfolding read_opening
returns-in_err-show c = search (group_step, reading)

pub returns-in_err-slot : goal.returns-in_err-slot
unfolding read_opening
returns-in_err-slot c = search (group_step, reading)

pub overflow_cast-opening : goal.overflow_cast-opening
overflow_cast-opening c = search slot_fits

pub returns : goal.returns
unfolding read_opening
returns c = search (group_step, reading, opening_read)
