use Rattle.base_syntax.proofs.Steps.{group_step, group_stop}
use Rattle.part_field.proofs.Steps.{reading}
use Rattle.base_syntax.proofs.Binds.{as_parts}
use Rattle.part_color.proofs.Parts.{in_parts_lem}
use Rattle.part_color.proofs.Records.{color_read}
use Rattle.part_color.proofs.parse_color_config.Goals as goal

pub returns-in_err-depth : goal.returns-in_err-depth
returns-in_err-depth c = as_parts _ (in_parts_lem _ _ _) (search reading)

pub returns-in_err-space : goal.returns-in_err-space
returns-in_err-space c = as_parts _ (in_parts_lem _ _ _) (search reading)

pub returns-in_err-sampling : goal.returns-in_err-sampling
returns-in_err-sampling c = as_parts _ (in_parts_lem _ _ _) (search (reading, group_stop))

pub returns : goal.returns
returns c = as_parts _ (in_parts_lem _ _ _) (search (reading, group_step, color_read))
