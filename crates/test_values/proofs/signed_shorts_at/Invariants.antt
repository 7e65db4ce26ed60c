use mathlib.Core.Path.{◌≡◌}
use Prim.Native.Nat.{◌≤◌, ◌*◌}
use lib.ListN.{length, take}
use Rattle.base_shared.specs.Lists.{values_of}
use Rattle.test_values.specs.Values.{signed_short_at}
use Rattle.test_values.proofs.signed_shorts_at.Given as goal

abbrev pub invariant-loop-i : goal.invariant-loop-i
invariant-loop-i l = (l.i ≤ 32) × (length l.out ≡ 32) × (take l.i l.out ≡ values_of (λ k. signed_short_at l.b (k * 3)) l.i)
