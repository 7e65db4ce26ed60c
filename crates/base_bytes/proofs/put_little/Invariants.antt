use Prim.Native.Nat.{◌-◌, ◌≤◌}
use Rattle.base_little.specs.Little.{spell_little}
use Rattle.base_bytes.proofs.Rest.{Left}
use Rattle.base_bytes.proofs.put_little.Given as goal

abbrev pub invariant-loop : goal.invariant-loop
invariant-loop l = (l.counter ≤ l.n) × Left l.initial.out l.at (spell_little l.n l.number) l.out l.next (spell_little (l.n - l.counter) l.left)

abbrev pub decreases-loop : goal.decreases-loop
decreases-loop l = l.n - l.counter
