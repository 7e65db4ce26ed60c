-- `clamp_to` is VP9's Clip3 from 0 on, and `changed` what VP9 does by segmentation_abs_or_delta_update.
use mathlib.Core.Path.{◌≡◌, refl, ap}
use mathlib.Core.Bool.{Bool, true, false}
use Prim.Native.Nat.{ℕ, min}
use native.Mathlib.Omega.{arith}
use borrow.Author.Tests.{ltb-true, ltb-false}
use lib.Dec.{ltb}
use lib.IntN.{ℤ, pos, negsuc, ◌+ℤ◌}
use Rattle.base_shared.specs.Choice.{pick}
use Rattle.segment_clamp.specs.Clamp.{clamp_to, changed}
use Rattle.segment_clamp.specs.Vp9.{clip3}

pub clamp_is_clip3 : (hi : ℕ) (z : ℤ) → pos (clamp_to hi z) ≡ clip3 (pos 0) (pos hi) z
unfolding clamp_to clip3
clamp_is_clip3 hi (negsuc n) = refl
clamp_is_clip3 hi (pos n) = go (ltb n 0) (ltb hi n) refl refl
  where
    go : (low high : Bool) → ltb n 0 ≡ low → ltb hi n ≡ high → pos (min n hi) ≡ pick low (pos 0) (pick high (pos hi) (pos n))
    go true high e f = absurd (omega (arith, ltb-true n 0 e))
    go false true e f = ap pos (omega (arith, ltb-true hi n f))
    go false false e f = ap pos (omega (arith, ltb-false hi n f))

-- 1 puts the data in the place of the base, and 0 adds it
pub changed_is : (base : ℕ) (absolute : Bool) (d : ℤ) → changed base absolute d ≡ pick absolute d (pos base +ℤ d)
changed_is base true d = refl
changed_is base false d = refl
