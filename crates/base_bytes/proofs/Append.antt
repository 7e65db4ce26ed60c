-- A text put after a text is both put as one.
-- Assumes nothing.
use Prim.Native.Nat.{ℕ, suc, ◌+◌, ◌-◌, ◌<◌, ◌≤◌, min}
use mathlib.Core.Path.{◌≡◌, sym, ◌∙◌, ap}
use mathlib.Core.Logic.{⊎_elim}
use mathlib.Core.List.{List, [], ◌∷◌, ◌++◌, append_assoc}
use native.Mathlib.Nat.{add_assoc}
use native.Mathlib.Numerals.{add-one}
use native.Mathlib.Omega.{arith}
use lib.ListN.{length, take, drop, set, length-append, length-take}
use lib.Seq.{set_split, paste, paste-zero, length-paste, take-paste, drop-paste, drop-drop, take-append-add, take-append-le, take-length, take_all}
use borrow.Rule.Slice.PartMut.{put_mid}
use Rattle.std.proofs.lemmas.Slice.{put_mid-paste}
use Rattle.base_bytes.specs.Put.{fitting, put_into, place_after, Written}
use Rattle.base_shared.proofs.Order.{below}

paste_join : (d a b : List ℕ) (at m : ℕ) → at + length a ≤ length d → paste (paste d at a (length a)) (at + length a) b m ≡ paste d at (a ++ b) (length a + m)
paste_join d a b at m h =
    let front : take (at + length a) (paste d at a (length a)) ≡ take at d ++ a = take-paste d at a (length a) (omega arith) (omega arith) ∙ rw (take-length a) in
    let back : drop (at + length a + m) (paste d at a (length a)) ≡ drop (at + length a + m) d =
    sym (drop-drop m (at + length a) (paste d at a (length a))) ∙ rw (drop-paste d at a (length a) (omega arith) (omega arith)) (drop-drop m (at + length a) d) in
    ap (λ (x : List ℕ). x ++ take m b ++ drop (at + length a + m) (paste d at a (length a))) front
    ∙ ap (λ (x : List ℕ). take at d ++ a ++ take m b ++ x) back
    ∙ rw (take-append-add a b m, append_assoc (take at d) a (take m b), add_assoc at (length a) m)

nothing_more : (out : List ℕ) (at : ℕ) (t : List ℕ) → length out ≤ at → put_into out at t ≡ out
unfolding put_into
nothing_more out at t h = let z : fitting out at t ≡ 0 = omega arith in rw z (sym (paste-zero out at t))

pub same_length : (out : List ℕ) (at : ℕ) (t : List ℕ) → length (put_into out at t) ≡ length out
unfolding put_into
same_length out at t = ⊎_elim within (λ h. ap length (nothing_more out at t h)) (below at (length out))
  where
    within : at < length out → length (put_into out at t) ≡ length out
    within h = length-paste out at t (fitting out at t) (omega arith) (omega arith)

module _ (out : List ℕ) (at : ℕ) (a b : List ℕ) where
  place_join : place_after (put_into out at a) (place_after out at a) b ≡ place_after out at (a ++ b)
  unfolding place_after
  place_join = rw (same_length out at a) (omega (arith, length-append a b))

  -- the first text leaves room, or fills what there is
  roomy : at + length a < length out → put_into (put_into out at a) (place_after out at a) b ≡ put_into out at (a ++ b)
  unfolding put_into place_after
  roomy h =
      let m : ℕ = min (length b) (length out - (at + length a)) in
      let l : length (paste out at a (length a)) ≡ length out = length-paste out at a (length a) (omega arith) (omega arith) in
      let e : fitting out at a ≡ length a = omega arith in
      let f : fitting out at (a ++ b) ≡ length a + m = omega (arith, length-append a b) in
      rw (e, f, l) (paste_join out a b at m (omega arith))

  no_more : length out ≤ at + length a → put_into out at a ≡ put_into out at (a ++ b)
  unfolding put_into
  no_more h =
      let e : fitting out at a ≡ length out - at = omega arith in
      let f : fitting out at (a ++ b) ≡ length out - at = omega (arith, length-append a b) in
      rw (e, f, take-append-le (length out - at) a b (omega arith))

  past : length out ≤ at + length a → length (put_into out at a) ≤ place_after out at a
  unfolding place_after
  past h = rw (same_length out at a) (omega arith)

  full : length out ≤ at + length a → put_into (put_into out at a) (place_after out at a) b ≡ put_into out at (a ++ b)
  full h = nothing_more (put_into out at a) (place_after out at a) b (past h) ∙ no_more h

  text_join : put_into (put_into out at a) (place_after out at a) b ≡ put_into out at (a ++ b)
  text_join = ⊎_elim roomy full (below (at + length a) (length out))

pub then : {out out₁ out₂ : List ℕ} {at at₁ at₂ : ℕ} {a b : List ℕ} → Written out at a at₁ out₁ → Written out₁ at₁ b at₂ out₂ → Written out at (a ++ b) at₂ out₂
then {out} {out₁} {out₂} {at} {at₁} {at₂} {a} {b} v w =
    let p : at₂ ≡ place_after (put_into out at a) (place_after out at a) b = cc in
    let t : out₂ ≡ put_into (put_into out at a) (place_after out at a) b = cc in
    record { place = p ∙ place_join out at a b; text = t ∙ text_join out at a b }

-- putting nothing changes nothing
pub nothing : (out : List ℕ) (at : ℕ) → Written out at [] at out
unfolding place_after put_into
nothing out at = let z : fitting out at [] ≡ 0 = omega arith in record { place = rw z (omega arith); text = rw z (paste-zero out at []) }

-- no byte comes or goes
pub written_length : {out out₁ t : List ℕ} {at next : ℕ} → Written out at t next out₁ → length out₁ ≡ length out
written_length {out} {out₁} {t} {at} w = rw w.text (same_length out at t)

-- as the code has it: the number of bytes that fit, and the copy
pub written : {out t out₁ : List ℕ} {at n : ℕ} → n ≡ fitting out at t → out₁ ≡ paste out at t n → Written out at t (at + n) out₁
unfolding place_after put_into
written e c = record { place = rw e; text = c ∙ rw e }

pub copied : {out t part : List ℕ} {at k n : ℕ} → n ≡ fitting out at t → part ≡ take n t → k ≡ n → Written out at t (at + n) (put_mid at k out part)
copied {out} {t} {part} {at} {k} {n} e p q =
    let l : n ≡ length (take n t) = omega (arith, length-take n t) in
    written e (put_mid-paste at k out part (take n t) n p (sym q) l ∙ rw (take_all n (take n t) (omega arith)))

-- where the place is past the end
pub past_end : (out : List ℕ) (at : ℕ) (t : List ℕ) → length out ≤ at → Written out at t at out
unfolding place_after
past_end out at t h = record { place = omega arith; text = sym (nothing_more out at t h) }

-- of one byte
pub byte_fits : {out : List ℕ} {at : ℕ} (byte : ℕ) → at < length out → Written out at (byte ∷ []) (at + 1) (set out at byte)
byte_fits {out} {at} byte h = let e : 1 ≡ fitting out at (byte ∷ []) = omega arith in written e (set_split out at byte h ∙ rw (add-one at) (sym (append_assoc (take at out) (byte ∷ []) (drop (suc at) out))))

-- a text that fits stands whole
module _ {out t : List ℕ} {at next : ℕ} {after : List ℕ} (w : Written out at t next after) (h : at + length t ≤ length out) where
  pub whole_place : next ≡ at + length t
  unfolding place_after
  whole_place = let e : fitting out at t ≡ length t = omega arith in w.place ∙ rw e

  pub whole_text : after ≡ take at out ++ t ++ drop (at + length t) out
  unfolding put_into
  whole_text = let e : fitting out at t ≡ length t = omega arith in w.text ∙ rw (e, take-length t)
