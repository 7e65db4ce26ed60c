use Prim.Native.Nat.{◌+◌, ◌-◌, ◌^◌, ◌<◌}
use mathlib.Core.Path.{◌≡◌}
use Rattle.base_little.specs.Little.{little}
use Rattle.base_little.proofs.gather.Given as goal

abbrev pub invariant-loop-k : goal.invariant-loop-k
invariant-loop-k l = (l.sum < 256 ^ (l.n - l.k)) × (l.sum ≡ little l.s (l.at + l.k) (l.n - l.k))
