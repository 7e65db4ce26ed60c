use native.Mathlib.Omega.{arith}
use borrow.Author.Rules.{rules}
use Rattle.part_segment_data.proofs.Filling.{features_start, features_turn, features_stop, features_end}
use Rattle.part_segment_data.proofs.parse_features.Goals as goal

pub loop-k-init : goal.loop-k-init
loop-k-init c = features_start _ _

pub returns-in_err-feature : goal.returns-in_err-feature
returns-in_err-feature c = features_stop c.loop-k.invariant (omega arith) _ c.parse_feature.ensures _ c.in_err-feature.was c.from_residual.ensures.1

pub loop-k-preserved : goal.loop-k-preserved
loop-k-preserved c = features_turn c.loop-k.invariant (omega arith) _ c.parse_feature.ensures _ _ c.in_ok-feature.was (search rules)

pub returns : goal.returns
returns c = features_end c.loop-k.invariant (omega arith)
