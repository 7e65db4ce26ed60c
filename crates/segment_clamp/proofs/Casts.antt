-- Numbers kept in a width and read back: what a call gave, a byte and a signed number of 16 bits as an i32, and their
-- sum.
use mathlib.Core.Path.{◌≡◌, ◌∙◌}
use mathlib.Core.Bool.{Bool, true, false, cond}
use Prim.Native.Nat.{ℕ, suc, ◌+◌, ◌-◌, ◌^◌, ◌<◌, ◌≤◌}
use native.Mathlib.Omega.{arith}
use lib.Dec.{ltb}
use lib.IntN.{ℤ, pos, negsuc, sub_ℕ, ◌+ℤ◌}
use lib.Signed.{mag}
use mir.Syntax.{Width, w8, w16, w32}
use mir.Val.{Fits, SFits, hbits, to_z, of_z}
use mir.Facts.{to_z-of_z, to_z_pos, sfits_widen}

-- the size of a sum, as the bound that a signed range is
mag_sub : (a b : ℕ) → mag (sub_ℕ a b) ≤ a + b
mag_sub a b = go (ltb a b)
  where
    go : (t : Bool) → mag (cond t (negsuc (b - suc a)) (pos (a - b))) ≤ a + b
    go true = omega arith
    go false = omega arith

pub mag_add : (x y : ℤ) → mag (x +ℤ y) ≤ suc (mag x + mag y)
mag_add (pos a) (pos b) = omega arith
mag_add (pos a) (negsuc b) = omega (arith, mag_sub a (suc b))
mag_add (negsuc a) (pos b) = omega (arith, mag_sub b (suc a))
mag_add (negsuc a) (negsuc b) = omega arith

pub byte : {n : ℕ} → Fits w8 n → to_z w32 n ≡ pos n
byte f = to_z_pos w32 (omega arith)

pub wide : {z : ℤ} → SFits w16 z → SFits w32 z
wide f = sfits_widen tt f

pub sum : {n : ℕ} {z : ℤ} → Fits w8 n → SFits w16 z → SFits w32 (pos n +ℤ z)
sum {n} {z} f g = record { sfits = omega (arith, mag_add (pos n) z) }

-- what a call gave is what its contract says
pub given : (w : Width) {r z : ℤ} → mag r < 2 ^ hbits w → r ≡ z → to_z w (of_z w r) ≡ z
given w f e = to_z-of_z (record { sfits = f }) ∙ e
