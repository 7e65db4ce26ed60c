use native.Mathlib.Omega.{arith}
use borrow.Author.Rules.{rules}
use Rattle.part_loop_deltas.proofs.Filling.{deltas_start, deltas_turn, deltas_cut, deltas_end}
use Rattle.part_loop_deltas.proofs.read_deltas.Goals as goal

pub loop-i-init : goal.loop-i-init
loop-i-init g c = deltas_start _ _ _ _ (search rules)

pub returns-in_err-delta : goal.returns-in_err-delta
returns-in_err-delta g c = deltas_cut c.loop-i.invariant (omega arith) _ c.read_delta.ensures c.branch-delta.ensures _ c.in_err-delta.is c.from_residual.ensures.1

pub loop-i-preserved : goal.loop-i-preserved
loop-i-preserved g c = deltas_turn c.loop-i.invariant (omega arith) _ c.read_delta.ensures c.branch-delta.ensures _ _ c.in_ok-delta.is _ c.move_delta.ensures (search rules) (search rules)

pub returns : goal.returns
returns g c = deltas_end c.loop-i.invariant (omega arith)
