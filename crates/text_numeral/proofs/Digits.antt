-- `io::decimal`'s digits are the numeral.
-- Assumes nothing.
use Prim.Native.Nat.{ℕ, zero, suc, ◌+◌, ◌-◌, ◌*◌, ◌/◌, ◌%◌, ◌^◌, ◌<◌, ◌≤◌}
use mathlib.Core.Path.{◌≡◌}
use mathlib.Core.Bool.{Bool, true, false, cond}
use mathlib.Core.List.{[]}
use native.Mathlib.Nat.{pow-le-pow_right, pow-succ'}
use native.Mathlib.Omega.{arith}
use lib.Dec.{ltb}
use lib.ListN.{length, length-append}
use borrow.Author.Tests.{lt-ltb, le-ltb}
use Rattle.io.specs.Digits.{last_digits, hex_digit_ascii, IsDigitCount}
use Rattle.text_numeral.specs.Numeral.{digit, numeral_of, numeral}

glyph_digit : (n : ℕ) → hex_digit_ascii (n % 10) ≡ digit (n % 10)
glyph_digit n = rw (lt-ltb (n % 10) 10 (omega arith))

-- 10 to a number that isn't 0
tens : (k : ℕ) → 10 ^ suc k ≡ 10 * 10 ^ k
tens k = pow-succ' 10 k

some : (k : ℕ) → 0 < 10 ^ k
some k = pow-le-pow_right {n = 10} (omega arith) {i = 0} {j = k} (omega arith)

-- more than one digit: the first isn't 0
more : (n k : ℕ) → IsDigitCount 10 1 n (suc (suc k)) → 10 ^ suc k ≤ n
more n k w = let e : suc (suc k) - 1 ≡ suc k = omega arith in rw e at (w.2 (omega arith))

fewest_less : (n k : ℕ) → IsDigitCount 10 1 n (suc (suc k)) → IsDigitCount 10 1 (n / 10) (suc k)
fewest_less n k w =
    let e : suc k - 1 ≡ k = omega arith in
    (omega arith, omega (arith, tens (suc k), w.1), λ h. rw e (omega (arith, tens k, more n k w)))

digits_numeral : (f k n : ℕ) → n < 10 ^ suc f → IsDigitCount 10 1 n k → last_digits 10 k n ≡ numeral_of f n
unfolding numeral_of
digits_numeral f zero n h w = absurd (omega arith)
digits_numeral zero (suc zero) n h w = rw glyph_digit
digits_numeral zero (suc (suc k)) n h w = absurd (omega (arith, more n k w, tens k, some k))
digits_numeral (suc f) (suc zero) n h w = rw (lt-ltb n 10 (omega (arith, w.1)), glyph_digit n)
digits_numeral (suc f) (suc (suc k)) n h w =
    let ten : 10 ≤ n = omega (arith, more n k w, tens k, some k) in
    let rest = digits_numeral f (suc k) (n / 10) (omega (arith, tens (suc f))) (fewest_less n k w) in
    rw (le-ltb n 10 ten, ← rest, glyph_digit n)

pub decimal_numeral : (k n : ℕ) → n < 2 ^ 64 → IsDigitCount 10 1 n k → last_digits 10 k n ≡ numeral n
unfolding numeral
decimal_numeral k n h w = digits_numeral 19 k n (omega arith) w

length_numeral_of : (f n : ℕ) → length (numeral_of f n) ≤ suc f
unfolding numeral_of
length_numeral_of zero n = omega arith
length_numeral_of (suc f) n = rw length-append (go (ltb n 10) (length_numeral_of f (n / 10)))
  where
    go : (b : Bool) → length (numeral_of f (n / 10)) ≤ suc f → length (cond b [] (numeral_of f (n / 10))) + 1 ≤ suc (suc f)
    go true h = omega arith
    go false h = omega arith

pub length_numeral : (n : ℕ) → length (numeral n) ≤ 20
unfolding numeral
length_numeral n = length_numeral_of 19 n
