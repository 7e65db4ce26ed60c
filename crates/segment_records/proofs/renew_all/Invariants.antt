use mathlib.Core.Path.{◌≡◌}
use Prim.Native.Nat.{◌≤◌}
use lib.ListN.{length}
use Rattle.base_shared.specs.Lists.{each}
use Rattle.segment_records.specs.Once.{segment_at}
use Rattle.base_shared.proofs.Each.{done}
use Rattle.segment_records.proofs.renew_all.Given as goal

abbrev pub invariant-loop-i : goal.invariant-loop-i
invariant-loop-i l = (l.i ≤ 8)
    × (length l.out ≡ 8)
    × (done (segment_at l.dc l.ac l.lf l.quant l.seg) l.i l.out ≡ each (segment_at l.dc l.ac l.lf l.quant l.seg) 0 l.initial.out)
