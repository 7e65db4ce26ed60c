use Rattle.part_loop_deltas.proofs.Filling.{DeltasFilling}
use Rattle.part_loop_deltas.proofs.read_deltas.Given as goal

abbrev pub invariant-loop-i : goal.invariant-loop-i
invariant-loop-i g l = DeltasFilling g.row.N l.old l.s l.initial.at.at l.i l.at.at l.coded l.values
