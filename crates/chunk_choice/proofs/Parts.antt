-- The part of a chunk, inside and outside.
-- Assumes nothing.
use Prim.Native.Nat.{ℕ, ◌+◌, ◌-◌, ◌<◌, ◌≤◌}
use mathlib.Core.Path.{◌≡◌}
use mathlib.Core.Bool.{true, false, and-false}
use mathlib.Core.List.{List, []}
use native.Mathlib.Omega.{arith}
use lib.ListN.{length, take, drop}
use borrow.Author.Tests.{le-leb, lt-leb}
use denote.Ref.{Bor}
use Rattle.base_shared.specs.Lists.{inside}
use Rattle.chunk_choice.specs.Choice.{part_bytes, part_start, PartOf}

module _ (s r : Bor (List ℕ)) (offset size : ℕ) where
  outside : inside s.now offset size ≡ false → r.now ≡ [] → r.ref_ptr ≡ (s.ref_ptr.0, 0 + s.ref_ptr.1) → PartOf s offset size r
  unfolding part_bytes part_start
  outside h b p = record { bytes = rw h b; place = rw h p }

  pub starts_outside : length s.now < offset → r.now ≡ [] → r.ref_ptr ≡ (s.ref_ptr.0, 0 + s.ref_ptr.1) → PartOf s offset size r
  starts_outside h = outside (rw (lt-leb _ _ h))

  pub ends_outside : length s.now - offset < size → r.now ≡ [] → r.ref_ptr ≡ (s.ref_ptr.0, 0 + s.ref_ptr.1) → PartOf s offset size r
  ends_outside h = outside (rw (lt-leb _ _ h, and-false))

  pub lies_inside : offset ≤ length s.now → size ≤ length s.now - offset → r.now ≡ take (offset + size - offset) (drop offset s.now) → r.ref_ptr ≡ (s.ref_ptr.0, offset + s.ref_ptr.1) → PartOf s offset size r
  unfolding part_bytes part_start
  lies_inside h k b p =
      let i : inside s.now offset size ≡ true = rw (le-leb _ _ h, le-leb _ _ k) in
      let e : offset + size - offset ≡ size = omega arith in
      record { bytes = rw i (rw e at b); place = rw i p }
