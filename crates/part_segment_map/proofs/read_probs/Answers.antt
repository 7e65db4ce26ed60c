use native.Mathlib.Omega.{arith}
use Rattle.part_segment_map.proofs.Filling.{probs_start, probs_turn, probs_stop, probs_end}
use Rattle.part_segment_map.proofs.read_probs.Goals as goal

pub loop-i-init : goal.loop-i-init
loop-i-init g c = probs_start _ _ _

pub returns-in_err-prob : goal.returns-in_err-prob
returns-in_err-prob g c = probs_stop c.loop-i.invariant (omega arith) _ c.read_prob.ensures _ c.in_err-prob.was c.from_residual.ensures.1

pub loop-i-preserved : goal.loop-i-preserved
loop-i-preserved g c = probs_turn c.loop-i.invariant (omega arith) _ c.read_prob.ensures _ _ c.in_ok-prob.was

pub returns : goal.returns
returns g c = probs_end c.loop-i.invariant (omega arith)
