-- What is at hand after some of it is used, and after a refill.
-- Assumes nothing.
use Prim.Native.Nat.{ℕ, ◌+◌, ◌-◌, ◌≤◌, min}
use mathlib.Core.Path.{◌≡◌, refl, sym, ◌∙◌}
use mathlib.Core.Bool.{Bool, true, false}
use mathlib.Core.List.{List, ◌++◌}
use native.Mathlib.Omega.{arith}
use lib.Dec.{leb}
use lib.ListN.{length, take, drop, length-take, length-drop, take-append-drop, drop_of_length-le}
use lib.Seq.{drop-drop, take-length, take-take, take-append_seam}
use borrow.Author.Tests.{leb-true, leb-false}
use Rattle.base_shared.proofs.Parts.{drop_take}
use Rattle.base_buffer.specs.Front.{held, front_of}
use Rattle.std.specs.Prelude.{Ok, Err}
use Rattle.base_stream.specs.declared.Unfilled.TheVariants.{Ended, Failed}
use Rattle.base_stream.specs.Stream.{Filled, FilledFrom}
use Rattle.base_input.specs.declared.Input.{Input}
use Rattle.base_input.specs.Input.{used_of, hand_of, filled_by, FilledBehind}

-- what is used is gone from its front
pub used_hand : (buf : List ℕ) (i : Input) (n : ℕ) → hand_of buf (used_of i n) ≡ drop n (hand_of buf i)
used_hand buf i n = go (leb (i.start + n) i.end) refl
  where
    go : (b : Bool) → leb (i.start + n) i.end ≡ b → hand_of buf (used_of i n) ≡ drop n (hand_of buf i)
    go true e =
        let h = leb-true (i.start + n) i.end e in
        let z : min (i.start + n) i.end ≡ i.start + n = omega (arith, h) in
        rw (z, drop-drop n i.start (take i.end buf))
    go false e =
        let h = leb-false (i.start + n) i.end e in
        let z : min (i.start + n) i.end ≡ i.end = omega (arith, h) in
        let short : length (take i.end buf) ≤ i.end = rw length-take (omega arith) in
        rw (z, drop-drop n i.start (take i.end buf), drop_of_length-le (take i.end buf) short, drop_of_length-le (take i.end buf) {i = i.start + n} (omega (arith, h, short)))

module _ (before : List ℕ) (i : Input) where
  abbrev hand : List ℕ
  hand = hand_of before i

  abbrev count : ℕ
  count = held before i.start i.end

  as_taken : hand ≡ take (i.end - i.start) (drop i.start before)
  as_taken = drop_take i.start i.end before

  counted : length hand ≡ count
  counted = rw (as_taken, length-take, length-drop) (omega arith)

  at_front : take count (front_of before i.start i.end) ≡ hand
  unfolding front_of
  at_front =
      let z : hand ≡ take count (drop i.start before) = sym (take-length hand) ∙ rw (counted, as_taken) (take-take count (i.end - i.start) (drop i.start before) (omega arith)) in
      rw (← z, ← counted) (take-append_seam hand (drop (length hand) before))

  -- behind it comes what was read
  pub block_behind : (r : Input) (after : List ℕ) → FilledBehind before i r after → (block : List ℕ) × (hand_of after r ≡ hand ++ block)
  block_behind r after h = go h.filled h.reads h.result
    where
      to : (end : ℕ) → count ≤ end → take count after ≡ take count (front_of before i.start i.end) → (block : List ℕ) × (take end after ≡ hand ++ block)
      to end le kept = (drop count (take end after), rw (← at_front, ← kept, ← take-take count end after le) (sym (take-append-drop count (take end after))))

      go : (f : Filled) → FilledFrom (front_of before i.start i.end) count f after → r ≡ filled_by (length before) f → (block : List ℕ) × (hand_of after r ≡ hand ++ block)
      go (Ok _) reads e = rw e (to (length before) (omega arith) reads.kept)
      go (Err (Ended end)) reads e = rw e (to end reads.ends.0 reads.kept)
      go (Err (Failed end why)) reads e = rw e (to end reads.ends.0 reads.kept)

  -- the input's end is told, and a failed read is none
  module _ {r : Input} {after : List ℕ} (h : FilledBehind before i r after) (end : ℕ) where
    pub end_told : h.filled ≡ Err (Ended end) → (r.ended ≡ true) × (r.failed ≡ false)
    end_told e = rw (h.result, e) (refl, refl)

    pub failure_told : (why : _) → h.filled ≡ Err (Failed end why) → (r.ended ≡ false) × (r.failed ≡ true)
    failure_told why e = rw (h.result, e) (refl, refl)
