-- A number by its sign and its magnitude, over the width of its type; a depth by its byte.
-- Assumes nothing.
use Prim.Native.Nat.{ℕ, ◌<◌, ◌^◌}
use mathlib.Core.Path.{◌≡◌, refl}
use mathlib.Core.Bool.{true}
use lib.IntN.{ℤ, pos, neg_ℤ, ◌-ℤ◌}
use lib.Signed.{mag}
use mir.Syntax.{Width}
use mir.Val.{hbits, to_z, of_z}
use mir.Facts.{to_z_pos, to_z-of_z}
use Rattle.base_enums.specs.declared.BitDepth.TheVariants.{Depth12}
use borrow.Author.Tests.{ne_eqb}
use Rattle.part_coded.proofs.Signed.{minus}
use Rattle.test_values.specs.Values.{signed_by, depth_read}

module _ (w : Width) (m : ℕ) (small : m < 2 ^ hbits w) (limit sign : ℕ) where
  pub plus_by : sign ≡ 0 → to_z w m ≡ signed_by limit sign m
  plus_by e = rw e (to_z_pos w small)

  pub minus_by : sign ≡ 1 → to_z w (of_z w (pos 0 -ℤ to_z w m)) ≡ signed_by limit sign m
  minus_by e = rw e (minus w m small true refl)

  pub least_by : (sign ≡ 0 → ⊥) → (sign ≡ 1 → ⊥) → neg_ℤ (pos limit) ≡ signed_by limit sign m
  least_by p q = rw (ne_eqb sign 0 p, ne_eqb sign 1 q)

-- what a call answers fits its type
pub held : (w : Width) (z : ℤ) → mag z < 2 ^ hbits w → to_z w (of_z w z) ≡ z
held w z h = to_z-of_z {w = w} {z = z} (record { sfits = h })

pub twelve : (b : ℕ) → (b ≡ 0 → ⊥) → (b ≡ 1 → ⊥) → Depth12 ≡ depth_read b
twelve b p q = rw (ne_eqb b 0 p, ne_eqb b 1 q)
