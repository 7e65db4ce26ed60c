-- `clamp_to` by the tests of the code, at any limit.
use mathlib.Core.Path.{◌≡◌, refl}
use mathlib.Core.Bool.{true, false}
use Prim.Native.Nat.{ℕ, ◌≤◌}
use native.Mathlib.Omega.{arith}
use borrow.Author.Tests.{ltb-true, ltb-false}
use lib.Dec.{T}
use lib.IntN.{ℤ, pos, negsuc, nat_abs}
use lib.Signed.{lt_z, non_neg}
use Rattle.segment_clamp.specs.Clamp.{clamp_to}

-- a negative number fails the test that it is not below 0
negative : {A : Type 0} (n : ℕ) → lt_z (negsuc n) (pos 0) ≡ false → A
negative n e = let z : ◌≡◌ {A = ℕ} 0 1 = cc in absurd (omega arith)

module _ (hi : ℕ) where
  pub clamp_low : (z : ℤ) → lt_z z (pos 0) ≡ true → 0 ≡ clamp_to hi z
  unfolding clamp_to
  clamp_low (pos n) e = absurd (omega (arith, ltb-true n 0 e))
  clamp_low (negsuc n) e = refl

  pub clamp_high : (z : ℤ) → lt_z z (pos 0) ≡ false → lt_z (pos hi) z ≡ true → hi ≡ clamp_to hi z
  unfolding clamp_to
  clamp_high (pos n) d e = omega (arith, ltb-true hi n e)
  clamp_high (negsuc n) d e = negative n d

  pub clamp_mid : (z : ℤ) → lt_z z (pos 0) ≡ false → lt_z (pos hi) z ≡ false → nat_abs z ≡ clamp_to hi z
  unfolding clamp_to
  clamp_mid (pos n) d e = omega (arith, ltb-false hi n e)
  clamp_mid (negsuc n) d e = negative n d

  -- between the limits a number is its own size
  pub between : (z : ℤ) → lt_z z (pos 0) ≡ false → lt_z (pos hi) z ≡ false → T (non_neg z) × (nat_abs z ≤ hi)
  between (pos n) d e = (tt, ltb-false hi n e)
  between (negsuc n) d e = negative n d
