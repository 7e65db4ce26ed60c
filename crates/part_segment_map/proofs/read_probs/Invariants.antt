use Rattle.part_segment_map.proofs.Filling.{ProbsFilling}
use Rattle.part_segment_map.proofs.read_probs.Given as goal

abbrev pub invariant-loop-i : goal.invariant-loop-i
invariant-loop-i g l = ProbsFilling g.row.N l.s l.initial.at.at l.i l.at.at l.probs
