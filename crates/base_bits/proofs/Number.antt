-- Facts on the bits and the number at a place, and what `read_bits` answers in each of its cases.
-- Assumes nothing.
use Prim.Native.Nat.{ℕ, zero, suc, ◌+◌, ◌*◌, ◌%◌, ◌/◌, ◌-◌, ◌^◌, ◌≤◌, ◌<◌}
use mathlib.Core.Path.{◌≡◌, refl, ap, sym, ◌∙◌}
use mathlib.Core.Bool.{Bool, true, false}
use mathlib.Core.List.{List}
use native.Mathlib.Nat.{mod-lt, add-zero, add-suc, pow-suc, mul_assoc}
use native.Mathlib.Omega.{arith}
use lib.ListN.{get_or}
use lib.Pow.{pow_mono}
use borrow.Author.Tests.{lt-ltb, le-ltb, ltb-false, le-leb, lt-leb}
use Rattle.base_bits.specs.Bit.{bit_at, reach, number, fits}
use Rattle.base_bits.specs.Read.{read_bits, read_bits_if}
use Rattle.std.specs.Prelude.{Result, Ok, Err}
use Rattle.base_bits.specs.declared.BitsError.{BitsError}
use Rattle.base_bits.specs.declared.BitsError.TheVariants.{Short, TooWide}
use Rattle.base_bits.specs.declared.Cursor.{Cursor}

pub bit_lt : (s : List ℕ) (p : ℕ) → bit_at s p < 2
unfolding bit_at
bit_lt s p = mod-lt (get_or s (p / 8) 0 / 2 ^ (7 - p % 8)) (omega arith)

pub number_lt : (s : List ℕ) (p n : ℕ) → number s p n < 2 ^ n
unfolding number
number_lt s p zero = omega arith
number_lt s p (suc n) = omega (arith, number_lt s p n, bit_lt s (p + n))

pub number_under : (s : List ℕ) (p : ℕ) {n m : ℕ} → n ≤ m → number s p n < 2 ^ m
number_under s p {n} h = omega (arith, number_lt s p n, pow_mono h)

-- a read of m + n bits is the one of m bits, followed by the one of n bits
pub number_join : (s : List ℕ) (p m n : ℕ) → number s p (m + n) ≡ number s p m * 2 ^ n + number s (p + m) n
unfolding number
number_join s p m zero = rw add-zero (omega arith)
number_join s p m (suc n) =
    let e : number s p (m + suc n) ≡ number s p (m + n) * 2 + bit_at s (p + (m + n)) = rw add-suc in
    let b : bit_at s (p + (m + n)) ≡ bit_at s (p + m + n) = ap (bit_at s) (omega arith) in
    let d : number s p m * 2 ^ suc n ≡ number s p m * 2 ^ n * 2 = rw (pow-suc, ← mul_assoc) in
    omega (arith, e, b, d, number_join s p m n)

pub fits_yes : (s : List ℕ) (p n : ℕ) → p + n ≤ reach s → fits s p n ≡ true
unfolding fits
fits_yes s p zero h = refl
fits_yes s p (suc n) h = lt-ltb (p + n) (reach s) (omega arith)

pub fits_no : (s : List ℕ) (p n : ℕ) → 0 < n → reach s < p + n → fits s p n ≡ false
unfolding fits
fits_no s p zero z h = absurd (omega arith)
fits_no s p (suc n) z h = le-ltb (p + n) (reach s) (omega arith)

-- a field that is not there has bits past the end
pub fits_short : (s : List ℕ) (p n : ℕ) → fits s p n ≡ false → (0 < n) × (reach s < p + n)
unfolding fits
fits_short s p zero h = let z : ◌≡◌ {A = ℕ} 0 1 = cc in absurd (omega arith)
fits_short s p (suc n) h = (omega arith, omega (arith, ltb-false (p + n) (reach s) h))

pub read_value : (s : List ℕ) (p n : ℕ) {v : ℕ} → v ≡ number s p n → n ≤ 31 → p + n ≤ reach s → Ok (v, record { at = p + n }) ≡ read_bits s p n
unfolding read_bits
read_value s p n e w h = simp (le-leb n 31 w, fits_yes s p n h, e)

pub read_none : (s : List ℕ) (p : ℕ) → Ok (0, record { at = p }) ≡ read_bits s p 0
unfolding fits number read_bits
read_none s p = rw add-zero

pub read_short : (s : List ℕ) (p n : ℕ) → n ≤ 31 → 0 < n → reach s < p + n → Err Short ≡ read_bits s p n
unfolding read_bits
read_short s p n w z h = simp (le-leb n 31 w, fits_no s p n z h)

pub read_wide : (s : List ℕ) (p n : ℕ) → 31 < n → Err TooWide ≡ read_bits s p n
unfolding read_bits
read_wide s p n h = simp (lt-leb n 31 h)

-- a field that is there, and one that isn't
pub there_read : (b : Bool) (s : List ℕ) (p n : ℕ) (r : Result (ℕ × Cursor) BitsError) → b ≡ true → r ≡ read_bits s p n → r ≡ read_bits_if b s p n
unfolding read_bits_if
there_read b s p n r h e = rw h e

pub not_there : (b : Bool) (s : List ℕ) (p n : ℕ) → b ≡ false → Ok (0, record { at = p }) ≡ read_bits_if b s p n
unfolding read_bits_if
not_there b s p n h = rw h

-- any two answers that meet the promise of `read_bits` are one
pub one_answer : (s : List ℕ) (p n : ℕ) (r q : Result (ℕ × Cursor) BitsError) → r ≡ read_bits s p n → q ≡ read_bits s p n → r ≡ q
one_answer s p n r q h k = h ∙ sym k
