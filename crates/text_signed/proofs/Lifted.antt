-- A number that the code lifts is the one in the record.
-- Assumes nothing.
use Prim.Native.Nat.{ℕ, ◌<◌, ◌^◌}
use mathlib.Core.Path.{◌≡◌, ap, ◌∙◌}
use mathlib.Core.List.{List}
use lib.IntN.{ℤ, pos}
use lib.ListN.{get_or}
use lib.Signed.{mag}
use mir.Syntax.{Width}
use mir.Val.{SFits, hbits, to_z, of_z}
use mir.Facts.{to_z-of_z}
use Rattle.text_signed.specs.Number.{lifted}
use Rattle.text_signed.specs.Number.{lifted_in}

pub lifts : {w : Width} {z : ℤ} {r : ℕ} → SFits w z → r ≡ lifted (to_z w (of_z w z)) → r ≡ lifted z
lifts f e = e ∙ ap lifted (to_z-of_z f)

pub lifts_at : (w : Width) (s : List ℤ) (i : ℕ) {r : ℕ} → mag (get_or s i (pos 0)) < 2 ^ hbits w → r ≡ lifted (to_z w (of_z w (get_or s i (pos 0)))) → r ≡ lifted_in s i
lifts_at w s i h e = lifts {w = w} {z = get_or s i (pos 0)} (record { sfits = h }) e
