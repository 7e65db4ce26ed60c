use borrow.Author.Tests.{eq-eqb, ne_eqb}
use Rattle.base_syntax.proofs.Steps.{group_step, group_stop, tail}
use Rattle.part_field.proofs.Steps.{reading}
use Rattle.base_syntax.proofs.Binds.{as_parts}
use Rattle.part_segmentation.proofs.Parts.{in_parts_lem}
use Rattle.part_segmentation.proofs.Records.{off_read, parts_read}
use Rattle.part_segmentation.proofs.parse_segmentation_params.Goals as goal

pub returns-in_err-enabled : goal.returns-in_err-enabled
returns-in_err-enabled c = as_parts _ (in_parts_lem _ _) (search reading)

pub returns-then-enabled-ne1 : goal.returns-then-enabled-ne1
returns-then-enabled-ne1 c = as_parts _ (in_parts_lem _ _) (search (reading, ne_eqb, off_read))

pub returns-in_err-seg : goal.returns-in_err-seg
returns-in_err-seg c = as_parts _ (in_parts_lem _ _) (search (reading, eq-eqb, group_stop))

pub returns : goal.returns
returns c = as_parts _ (in_parts_lem _ _) (search (reading, eq-eqb, group_step, tail, parts_read) depth 8)
