-- The number of a magnitude and a sign, over the width of its type.
-- Assumes nothing.
use Prim.Native.Nat.{ℕ, zero, suc, ◌<◌, ◌^◌}
use mathlib.Core.Path.{◌≡◌}
use mathlib.Core.Bool.{Bool, true, false}
use native.Mathlib.Omega.{arith}
use lib.IntN.{pos, neg_ℤ, ◌-ℤ◌, +ℤ_idl}
use mir.Val.{SFits, hbits, to_z, of_z}
use mir.Facts.{to_z_pos, to_z-of_z}
use mir.Syntax.{Width}
use Rattle.grammar_settings.specs.Settings.{signed}

module _ (w : Width) (m : ℕ) (small : m < 2 ^ hbits w) where
  neg_fits : SFits w (neg_ℤ (pos m))
  neg_fits = go m small
    where
      go : (m : ℕ) → m < 2 ^ hbits w → SFits w (neg_ℤ (pos m))
      go zero h = record { sfits = h }
      go (suc n) h = record { sfits = omega arith }

  pub signed_fits : (b : Bool) → SFits w (signed m b)
  signed_fits true = neg_fits
  signed_fits false = record { sfits = small }

  -- what the machine's negation gives
  pub minus_fits : SFits w (pos 0 -ℤ to_z w m)
  minus_fits = rw (to_z_pos w small, +ℤ_idl) neg_fits

  pub minus : (b : Bool) → b ≡ true → to_z w (of_z w (pos 0 -ℤ to_z w m)) ≡ signed m b
  minus b e = rw (e, to_z_pos w small, +ℤ_idl) (to_z-of_z neg_fits)

  pub plus : (b : Bool) → b ≡ false → to_z w m ≡ signed m b
  plus b e = rw e (to_z_pos w small)
