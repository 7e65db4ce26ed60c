use Prim.Native.Nat.{◌-◌}
use Rattle.part_coded.proofs.Run.{Counted}
use Rattle.part_size_with_refs.proofs.find_ref.Given as goal

abbrev pub invariant-loop-i : goal.invariant-loop-i
invariant-loop-i l = Counted "found_ref" 0 3 l.s l.initial.at.at l.i l.at.at

abbrev pub decreases-loop-i : goal.decreases-loop-i
decreases-loop-i l = 3 - l.i
