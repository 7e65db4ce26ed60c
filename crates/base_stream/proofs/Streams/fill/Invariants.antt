use Prim.Native.Nat.{◌≤◌}
use mathlib.Core.Path.{◌≡◌}
use lib.ListN.{length, take}
use Rattle.base_stream.proofs.Streams.fill.Given as goal

abbrev pub invariant-loop : goal.invariant-loop
invariant-loop l = (l.at ≤ l.next) × (l.next ≤ length l.buf) × (length l.buf ≡ length l.initial.buf) × (take l.at l.buf ≡ take l.at l.initial.buf)
