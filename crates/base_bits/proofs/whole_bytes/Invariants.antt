use Prim.Native.Nat.{◌*◌, ◌≤◌}
use mathlib.Core.Path.{◌≡◌}
use Rattle.base_bits.specs.Bit.{number}
use Rattle.base_bits.proofs.whole_bytes.Given as goal

abbrev pub invariant-loop-k : goal.invariant-loop-k
invariant-loop-k l = (l.k ≤ l.count) × (l.v ≡ number l.s (8 * l.q) (8 * l.k))
