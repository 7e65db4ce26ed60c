-- What is said of a frame is told by its number.
-- Assumes nothing.
use Prim.Native.Nat.{ℕ}
use mathlib.Core.Path.{◌≡◌, refl, sym, ◌∙◌}
use lib.Dec.{eqb}
use Rattle.base_shared.specs.Choice.{pick}
use Rattle.base_bits.specs.declared.Refusal.TheVariants.{FrameMarker, SyncCode, PastEnd}
use Rattle.header_verdict.specs.Verdict.{Accepted, Refused, Place, Outside, Inside, place_number}

-- what has that number
abbrev placed_by : ℕ → Place
placed_by n =
    pick (eqb n 0) (Inside Accepted)
    (pick (eqb n 3) Outside
    (pick (eqb n 4) (Inside (Refused FrameMarker))
    (pick (eqb n 5) (Inside (Refused SyncCode))
    (Inside (Refused PastEnd)))))

told : (p : Place) → p ≡ placed_by (place_number p)
told Outside = refl
told (Inside Accepted) = refl
told (Inside (Refused FrameMarker)) = refl
told (Inside (Refused SyncCode)) = refl
told (Inside (Refused PastEnd)) = refl

pub one_place : (p q : Place) → place_number p ≡ place_number q → p ≡ q
one_place p q e = told p ∙ rw e (sym (told q))
