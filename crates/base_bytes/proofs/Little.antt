-- A number put byte after byte, low byte first.
-- Assumes nothing.
use Prim.Native.Nat.{ℕ, suc, ◌+◌, ◌-◌, ◌/◌, ◌%◌, ◌<◌, ◌≤◌}
use mathlib.Core.Path.{◌≡◌}
use mathlib.Core.List.{[], ◌∷◌, ◌++◌}
use native.Mathlib.Nat.{sub-zero}
use native.Mathlib.Omega.{arith}
use Rattle.base_little.specs.Little.{spell_little}

pub bytes_all : (n number : ℕ) → spell_little (n - 0) number ≡ spell_little n number
bytes_all n number = rw sub-zero

pub byte_more : (n number i : ℕ) → i < n → spell_little (n - i) number ≡ (number % 256 ∷ []) ++ spell_little (n - (i + 1)) (number / 256)
unfolding spell_little
byte_more n number i h = let e : n - i ≡ suc (n - (i + 1)) = omega arith in rw e

pub bytes_none : (n number i : ℕ) → n ≤ i → spell_little (n - i) number ≡ []
unfolding spell_little
bytes_none n number i h = let z : n - i ≡ 0 = omega arith in rw z
