use Rattle.part_segment_data.proofs.Filling.{FeaturesFilling}
use Rattle.part_segment_data.proofs.parse_features.Given as goal

abbrev pub invariant-loop-k : goal.invariant-loop-k
invariant-loop-k l = FeaturesFilling l.s l.initial.at.at l.k l.at.at l.enabled l.values
