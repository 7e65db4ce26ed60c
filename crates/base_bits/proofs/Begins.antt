-- What stands at place 0 is what the bits of the slice begin with, so that a reader of a spelling needs neither
-- places nor `reach`.
-- Assumes nothing.
use Prim.Native.Nat.{ℕ, zero, suc, ◌+◌, ◌*◌, ◌%◌, ◌/◌, ◌-◌, ◌^◌, ◌≤◌, ◌<◌}
use mathlib.Core.Path.{◌≡◌, refl, ap, sym, ◌∙◌}
use mathlib.Core.Logic.{◌↔◌, ⊎_elim}
use mathlib.Core.List.{List, [], ◌∷◌, ◌++◌}
use native.Mathlib.Nat.{div-div-eq-div-mul, pow-succ', div-one, eq-or-lt_of_le}
use native.Mathlib.Omega.{arith}
use lib.ListN.{length, get_or, drop, length-append, length-drop, get_or-append}
use lib.Seq.{drop-cons, get_or-append-add}
use Rattle.base_bits.specs.Bit.{spell, bits_of, Begins, bit_at, reach, Stands}
use Rattle.base_bits.proofs.Stand.{length_spell}
use Rattle.base_shared.proofs.Order.{below}

pub length_bits : (s : List ℕ) → length (bits_of s) ≡ 8 * length s
unfolding bits_of
length_bits [] = refl
length_bits (b ∷ s) = simp (length-append, length_spell, length_bits s) (omega arith)

-- bit i of the n that spell v
spell_at : (n v i : ℕ) → i < n → get_or (spell n v) i 0 ≡ v / 2 ^ (n - 1 - i) % 2
unfolding spell
spell_at zero v i h = absurd (omega arith)
spell_at (suc n) v i h =
    let e : suc n - 1 - i ≡ n - i = omega arith in
    rw e (⊎_elim last (earlier (spell_at n (v / 2) i)) (eq-or-lt_of_le {n = i} {m = n} (omega arith)))
  where
    earlier : (i < n → get_or (spell n (v / 2)) i 0 ≡ v / 2 / 2 ^ (n - 1 - i) % 2) → i < n → get_or (spell n (v / 2) ++ (v % 2 ∷ [])) i 0 ≡ v / 2 ^ (n - i) % 2
    earlier before l =
        let e : n - i ≡ suc (n - 1 - i) = omega arith in
        get_or-append (spell n (v / 2)) (v % 2 ∷ []) 0 i (omega (arith, length_spell n (v / 2)))
        ∙ before l
        ∙ rw (e, pow-succ', ← div-div-eq-div-mul)

    last : i ≡ n → get_or (spell n (v / 2) ++ (v % 2 ∷ [])) i 0 ≡ v / 2 ^ (n - i) % 2
    last e =
        let z : n - i ≡ 0 = omega arith in
        let j : i ≡ length (spell n (v / 2)) + 0 = omega (arith, length_spell n (v / 2)) in
        rw (z, div-one, j) (get_or-append-add (spell n (v / 2)) (v % 2 ∷ []) 0 0)

bits_at : (s : List ℕ) (p : ℕ) → p < 8 * length s → get_or (bits_of s) p 0 ≡ bit_at s p
unfolding bits_of bit_at
bits_at [] p h = absurd (omega arith)
bits_at (b ∷ s) p h = ⊎_elim here (later (bits_at s (p - 8))) (below p 8)
  where
    here : p < 8 → get_or (spell 8 b ++ bits_of s) p 0 ≡ get_or (b ∷ s) (p / 8) 0 / 2 ^ (7 - p % 8) % 2
    here l =
        let q : p / 8 ≡ 0 = omega arith in
        let m : p % 8 ≡ p = omega arith in
        get_or-append (spell 8 b) (bits_of s) 0 p (omega (arith, length_spell 8 b)) ∙ spell_at 8 b p l ∙ rw (q, m)

    later : (p - 8 < 8 * length s → get_or (bits_of s) (p - 8) 0 ≡ bit_at s (p - 8)) → 8 ≤ p → get_or (spell 8 b ++ bits_of s) p 0 ≡ get_or (b ∷ s) (p / 8) 0 / 2 ^ (7 - p % 8) % 2
    later rest l =
        let j : p ≡ length (spell 8 b) + (p - 8) = omega (arith, length_spell 8 b) in
        let q : p / 8 ≡ suc ((p - 8) / 8) = omega arith in
        let m : p % 8 ≡ (p - 8) % 8 = omega arith in
        ap (λ (k : ℕ). get_or (spell 8 b ++ bits_of s) k 0) j
        ∙ get_or-append-add (spell 8 b) (bits_of s) (p - 8) 0
        ∙ rest (omega arith)
        ∙ rw (q, m)

drop_bits : (s : List ℕ) (p : ℕ) → p < 8 * length s → drop p (bits_of s) ≡ bit_at s p ∷ drop (suc p) (bits_of s)
drop_bits s p h = rw (drop-cons (bits_of s) p 0 (omega (arith, length_bits s)), bits_at s p h)

stands_drop : (s : List ℕ) (p : ℕ) (l : List ℕ) → Stands s p l → (rest : List ℕ) × (drop p (bits_of s) ≡ l ++ rest)
unfolding Stands reach
stands_drop s p [] h = (drop p (bits_of s), refl)
stands_drop s p (b ∷ l) h =
    let m = stands_drop s (suc p) l h.2 in
    (m.0, rw (drop_bits s p (omega (arith, h.0)), h.1, m.1))

drop_stands : (s : List ℕ) (p : ℕ) (l rest : List ℕ) → p + length l < 2 ^ 64 → drop p (bits_of s) ≡ l ++ rest → Stands s p l
unfolding Stands reach
drop_stands s p [] rest h e = tt
drop_stands s p (b ∷ l) rest h e =
    let n : 8 * length s - p ≡ suc (length (l ++ rest)) = sym (rw (length-drop, length_bits) (refl)) ∙ ap length e in
    let lt : p < 8 * length s = omega arith in
    let c : bit_at s p ∷ drop (suc p) (bits_of s) ≡ b ∷ (l ++ rest) = sym (drop_bits s p lt) ∙ e in
    let pb : bit_at s p ≡ b = cc in
    let pl : drop (suc p) (bits_of s) ≡ l ++ rest = cc in
    (omega arith, pb, drop_stands s (suc p) l rest (omega arith) pl)

-- fewer than 2^64 bits stand at 0 exactly if the slice's bits begin with them
pub begins : (s l : List ℕ) → length l < 2 ^ 64 → Stands s 0 l ↔ Begins s l
begins s l h = (λ k. stands_drop s 0 l k, λ k. drop_stands s 0 l k.0 (omega arith) k.1)
