use Rattle.base_syntax.proofs.Steps.{group_step, group_stop}
use Rattle.part_field.proofs.Steps.{reading}
use borrow.Author.Tests.{eq-eqb, ne_eqb}
use Rattle.part_segment_data.specs.Data.{read_data}
use Rattle.part_segment_data.proofs.Records.{data_read, data_kept}
use Rattle.part_segment_data.proofs.parse_data.Goals as goal

pub returns-in_err-update : goal.returns-in_err-update
unfolding read_data
returns-in_err-update c = search reading

pub returns-in_err-absolute : goal.returns-in_err-absolute
unfolding read_data
returns-in_err-absolute c = search reading

pub returns-then-update-ne1 : goal.returns-then-update-ne1
unfolding read_data
returns-then-update-ne1 c = search (reading, ne_eqb, data_kept)

pub returns-in_err-enabled : goal.returns-in_err-enabled
unfolding read_data
returns-in_err-enabled c = search (reading, eq-eqb, group_stop)

pub returns : goal.returns
unfolding read_data
returns c = search (reading, eq-eqb, group_step, data_read)
