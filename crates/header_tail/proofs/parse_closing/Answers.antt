use Rattle.base_syntax.proofs.Steps.{group_step, group_stop}
use Rattle.part_field.proofs.Steps.{reading}
use Rattle.header_tail.specs.Closing.{read_closing}
use Rattle.header_tail.proofs.Records.{bytes_fit, closing_read}
use Rattle.header_tail.proofs.parse_closing.Goals as goal

pub returns-in_err-tiles : goal.returns-in_err-tiles
unfolding read_closing
returns-in_err-tiles c = search group_stop

pub returns-in_err-bytes : goal.returns-in_err-bytes
unfolding read_closing
returns-in_err-bytes c = search (group_step, reading)

pub overflow_cast-closing : goal.overflow_cast-closing
overflow_cast-closing c = search bytes_fit

pub returns : goal.returns
unfolding read_closing
returns c = search (group_step, reading, closing_read)
