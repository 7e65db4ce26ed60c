use Rattle.base_syntax.proofs.Steps.{group_step, group_stop}
use Rattle.header_picture.specs.Key.{read_key}
use Rattle.header_picture.proofs.Records.{key_read}
use Rattle.header_picture.proofs.parse_key.Goals as goal

pub returns-in_err-c : goal.returns-in_err-c
unfolding read_key
returns-in_err-c c = search group_stop

pub returns-in_err-color : goal.returns-in_err-color
unfolding read_key
returns-in_err-color c = search (group_step, group_stop)

pub returns-in_err-sizes : goal.returns-in_err-sizes
unfolding read_key
returns-in_err-sizes c = search (group_step, group_stop)

pub returns : goal.returns
unfolding read_key
returns c = search (group_step, key_read)
