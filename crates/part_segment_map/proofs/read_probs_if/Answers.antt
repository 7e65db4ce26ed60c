use Rattle.part_segment_map.proofs.Records.{probs_there, probs_none}
use Rattle.part_segment_map.proofs.read_probs_if.Goals as goal

pub returns-then-there : goal.returns-then-there
returns-then-there g c = search probs_there

pub returns-else-there : goal.returns-else-there
returns-else-there g c = search probs_none
