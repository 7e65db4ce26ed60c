-- A delta of 8 bits times 2^n, and the sum of two such, fit 16 bits, whatever the frame's level is.
use mathlib.Core.Path.{◌≡◌}
use Prim.Native.Nat.{ℕ, zero, suc, ◌*◌, ◌/◌, ◌%◌, ◌^◌, ◌<◌, ◌≤◌}
use native.Mathlib.Nat.{mul-le-mul, one-mul, mod-eq_of_lt}
use native.Mathlib.Omega.{arith}
use lib.IntN.{ℤ, pos, negsuc, neg_ℤ, ◌+ℤ◌, ◌*ℤ◌}
use lib.Pow.{pow_mono, pow_pos}
use lib.Signed.{mag}
use mir.Facts.{to_z_pos}
use mir.Syntax.{w8, w16}
use mir.Val.{Fits, SFits, to_z}
use Rattle.segment_clamp.proofs.Casts.{mag_add}
use Rattle.segment_levels.specs.Levels.{scaled}

mag_neg : (r : ℕ) → 0 < r → mag (neg_ℤ (pos r)) < r
mag_neg zero h = absurd (omega arith)
mag_neg (suc r) h = omega arith

mag_mul : (x : ℤ) (k : ℕ) → 0 < k → mag (x *ℤ pos k) < suc (mag x) * k
mag_mul (pos a) k h = omega arith
mag_mul (negsuc a) k h = mag_neg (suc a * k) (omega arith)

module _ {frame : ℕ} (f : Fits w8 frame) where
  power_small : 2 ^ (frame / 32) ≤ 128
  power_small = pow_mono {i = frame / 32} {j = 7} (omega arith)

  -- 1 << n is 2^n
  pub power : to_z w16 ((1 * 2 ^ (frame / 32)) % 65536) ≡ pos (2 ^ (frame / 32))
  power =
      let b = power_small in
      rw (one-mul (2 ^ (frame / 32)), mod-eq_of_lt {n = 2 ^ (frame / 32)} {m = 65536} (omega arith)) (to_z_pos w16 (omega arith))

  scaled_small : {d : ℤ} → SFits w8 d → mag (scaled frame d) < 16384
  unfolding scaled
  scaled_small {d} g =
      let m = mul-le-mul {n₁ = suc (mag d)} {m₁ = 2 ^ (frame / 32)} {n₂ = 128} {m₂ = 128} g.sfits power_small in
      omega (arith, mag_mul d (2 ^ (frame / 32)) (pow_pos (frame / 32)), m)

  pub scaled_fits : {d : ℤ} → SFits w8 d → SFits w16 (scaled frame d)
  scaled_fits g = record { sfits = omega (arith, scaled_small g) }

  pub both_fit : {d e : ℤ} → SFits w8 d → SFits w8 e → SFits w16 (scaled frame d +ℤ scaled frame e)
  both_fit {d} {e} g h =
      record { sfits = omega (arith, scaled_small g, scaled_small h, mag_add (scaled frame d) (scaled frame e)) }
