use Rattle.part_field.proofs.Steps.{reading}
use Rattle.part_segment_map.specs.Map.{read_map}
use Rattle.part_segment_map.proofs.Steps.{probs_step, probs_stop}
use Rattle.part_segment_map.proofs.Records.{map_read, map_kept}
use Rattle.part_segment_map.proofs.parse_map.Goals as goal

pub returns-in_err-update : goal.returns-in_err-update
unfolding read_map
returns-in_err-update c = search reading

pub returns-in_err-tree_probs : goal.returns-in_err-tree_probs
unfolding read_map
returns-in_err-tree_probs c = search (reading, probs_stop)

pub returns-in_err-temporal : goal.returns-in_err-temporal
unfolding read_map
returns-in_err-temporal c = search (reading, probs_step)

pub returns-in_err-pred_probs : goal.returns-in_err-pred_probs
unfolding read_map
returns-in_err-pred_probs c = search (reading, probs_step, probs_stop)

pub returns-then-update-eq1 : goal.returns-then-update-eq1
unfolding read_map
returns-then-update-eq1 c = search (reading, probs_step, map_read)

pub returns-else-update-eq1 : goal.returns-else-update-eq1
unfolding read_map
returns-else-update-eq1 c = search (reading, probs_step, map_kept)
