-- A number of bytes, low byte first, and its spelling.
-- Assumes nothing.
use Prim.Native.Nat.{ℕ, zero, suc, ◌+◌, ◌*◌, ◌/◌, ◌%◌, ◌^◌, ◌<◌, ◌≤◌}
use mathlib.Core.Path.{◌≡◌, refl, sym, ap}
use mathlib.Core.List.{List, [], ◌∷◌, ◌++◌}
use native.Mathlib.Nat.{pow-succ'}
use native.Mathlib.Numerals.{add-one}
use native.Mathlib.Omega.{arith}
use lib.ListN.{length, get_or, take, drop, length-append}
use lib.Seq.{append_snoc, get_or-append_seam, drop-cons}
use Rattle.base_little.specs.Little.{little, spell_little}

pub length_little : (n v : ℕ) → length (spell_little n v) ≡ n
unfolding spell_little
length_little zero v = refl
length_little (suc n) v = ap suc (length_little n _)

-- a number stands where its spelling does
pub little_spelt : (a b : List ℕ) (n v : ℕ) → v < 256 ^ n → little (a ++ (spell_little n v ++ b)) (length a) n ≡ v
unfolding spell_little little
little_spelt a b zero v h = omega arith
little_spelt a b (suc n) v h =
    let low = v % 256 in
    let more = spell_little n (v / 256) ++ b in
    let l : length a + 1 ≡ length (a ++ (low ∷ [])) = sym (length-append a (low ∷ [])) in
    let here : get_or (a ++ (low ∷ more)) (length a) 0 ≡ low = get_or-append_seam a low more 0 in
    let rest : little (a ++ (low ∷ more)) (length a + 1) n ≡ v / 256 = rw (l, ← append_snoc a low) (little_spelt (a ++ (low ∷ [])) b n (v / 256) (omega arith)) in
    omega arith

-- and the n bytes from a place on spell their number
pub little_bytes : (s : List ℕ) → ((i : ℕ) → get_or s i 0 < 256) → (at n : ℕ) → at + n ≤ length s → spell_little n (little s at n) ≡ take n (drop at s)
unfolding spell_little little
little_bytes s bytes at zero h = refl
little_bytes s bytes at (suc n) h =
    let rest = little_bytes s bytes (at + 1) n (omega arith) in
    let x = get_or s at 0 in
    let y = little s (at + 1) n in
    let small : x < 256 = bytes at in
    let low : (x + 256 * y) % 256 ≡ x = omega arith in
    let high : (x + 256 * y) / 256 ≡ y = omega arith in
    rw (low, high, drop-cons s at 0 (omega arith), ← add-one at, rest)

-- which is below 256 to the n
pub little_lt : (s : List ℕ) → ((i : ℕ) → get_or s i 0 < 256) → (at n : ℕ) → little s at n < 256 ^ n
unfolding little
little_lt s bytes at zero = omega arith
little_lt s bytes at (suc n) = rw pow-succ' (omega (arith, bytes at, little_lt s bytes (at + 1) n))
