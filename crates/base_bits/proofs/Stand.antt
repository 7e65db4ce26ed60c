-- The bits that stand at a place: a list in two parts, and the spelling of a number.
-- Assumes nothing.
use Prim.Native.Nat.{ℕ, zero, suc, ◌+◌, ◌*◌, ◌%◌, ◌/◌, ◌^◌, ◌<◌}
use mathlib.Core.Path.{◌≡◌, refl, ap, sym, ◌∙◌}
use mathlib.Core.Bool.{true}
use mathlib.Core.List.{List, [], ◌∷◌, ◌++◌}
use native.Mathlib.Nat.{add-zero, add-suc, suc-add}
use native.Mathlib.Omega.{arith}
use lib.ListN.{length, length-append}
use borrow.Author.Tests.{ltb-true, lt-ltb}
use Rattle.base_bits.specs.Bit.{bit_at, reach, Stands, spell, number, fits}
use Rattle.base_bits.proofs.Number.{bit_lt, fits_yes}

pub stands_join : (s : List ℕ) (p : ℕ) (l m : List ℕ) → Stands s p l → Stands s (p + length l) m → Stands s p (l ++ m)
unfolding Stands
stands_join s p [] m h k = rw add-zero at k
stands_join s p (b ∷ l) m h k = (h.0, h.1, stands_join s (suc p) l m h.2 (rw (add-suc, ← suc-add) at k))

pub stands_left : (s : List ℕ) (p : ℕ) (l m : List ℕ) → Stands s p (l ++ m) → Stands s p l
unfolding Stands
stands_left s p [] m h = tt
stands_left s p (b ∷ l) m h = (h.0, h.1, stands_left s (suc p) l m h.2)

pub stands_right : (s : List ℕ) (p : ℕ) (l m : List ℕ) → Stands s p (l ++ m) → Stands s (p + length l) m
unfolding Stands
stands_right s p [] m h = rw add-zero h
stands_right s p (b ∷ l) m h = rw (add-suc, ← suc-add) (stands_right s (suc p) l m h.2)

pub length_spell : (n v : ℕ) → length (spell n v) ≡ n
unfolding spell
length_spell zero v = refl
length_spell (suc n) v = simp (length-append, length_spell n (v / 2)) (omega arith)

-- the bits that stand there spell the number that is read there
pub spells_number : (s : List ℕ) (p n : ℕ) → fits s p n ≡ true → Stands s p (spell n (number s p n))
unfolding spell number fits Stands
spells_number s p zero h = tt
spells_number s p (suc n) h =
    let b = bit_at s (p + n) in
    let m = number s p n in
    let lt : p + n < reach s = ltb-true (p + n) (reach s) h in
    let half : (m * 2 + b) / 2 ≡ m = omega (arith, bit_lt s (p + n)) in
    let odd : (m * 2 + b) % 2 ≡ b = omega (arith, bit_lt s (p + n)) in
    rw (half, odd)
    (stands_join s p (spell n m) (b ∷ []) (spells_number s p n (fits_yes s p n (omega arith))) (rw length_spell (lt, refl, tt)))

-- where the spelling of a number in range stands, that number is read
pub number_spelt : (s : List ℕ) (p n v : ℕ) → v < 2 ^ n → Stands s p (spell n v) → (fits s p n ≡ true) × (number s p n ≡ v)
unfolding spell number fits Stands
number_spelt s p zero v r h = (refl, omega arith)
number_spelt s p (suc n) v r h =
    let l = spell n (v / 2) in
    let before = number_spelt s p n (v / 2) (omega arith) (stands_left s p l (v % 2 ∷ []) h) in
    let last = stands_right s p l (v % 2 ∷ []) h in
    let eq : p + length l ≡ p + n = ap (p +◌) (length_spell n (v / 2)) in
    (lt-ltb (p + n) (reach s) (omega (arith, last.0)), omega (arith, before.1, ap (bit_at s) eq, last.1))

-- of two numbers in range whose spellings stand there, both are one
pub one_spelling : (s : List ℕ) (p n v w : ℕ) → v < 2 ^ n → w < 2 ^ n → Stands s p (spell n v) → Stands s p (spell n w) → v ≡ w
one_spelling s p n v w lv lw hv hw = sym (number_spelt s p n v lv hv).1 ∙ (number_spelt s p n w lw hw).1
