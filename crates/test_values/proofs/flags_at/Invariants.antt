use mathlib.Core.Path.{◌≡◌}
use Prim.Native.Nat.{◌≤◌}
use lib.ListN.{length, take}
use Rattle.base_shared.specs.Lists.{values_of}
use Rattle.test_values.specs.Values.{flag_at}
use Rattle.test_values.proofs.flags_at.Given as goal

abbrev pub invariant-loop-i : goal.invariant-loop-i
invariant-loop-i l = (l.i ≤ 32) × (length l.out ≡ 32) × (take l.i l.out ≡ values_of (flag_at l.b) l.i)
