-- The rule once more, over the bits themselves: the flags are made of their bits by weights, that of bit i being 2^i.
-- Assumes nothing.
use Prim.Native.Nat.{ℕ, zero, suc, ◌+◌, ◌*◌, ◌/◌, ◌%◌, ◌^◌, ◌<◌}
use mathlib.Core.Path.{◌≡◌, refl, ◌∙◌}
use mathlib.Core.Bool.{Bool, true, false}
use mathlib.Core.List.{List, [], ◌∷◌}
use native.Mathlib.Nat.{div-div-eq-div-mul, pow-succ', div-one, zero-div}
use native.Mathlib.Omega.{arith}
use lib.Dec.{eqb}
use lib.ListN.{length, get_or}
use Rattle.base_shared.specs.Choice.{pick}
use Rattle.base_shared.specs.Lists.{each}
use Rattle.base_shared.proofs.Each.{each_at}
use Rattle.base_size.specs.declared.FrameSize.{FrameSize}
use Rattle.base_slots.specs.Slots.{slot_after, refreshed}

-- the flags with these bits, bit 0 first
abbrev pub weighed : List Bool → ℕ
weighed [] = 0
weighed (b ∷ bs) = pick b 1 0 + 2 * weighed bs

halved : (b : Bool) (w : ℕ) → (pick b 1 0 + 2 * w) / 2 ≡ w
halved true w = omega arith
halved false w = omega arith

lowest : (b : Bool) (w : ℕ) → (pick b 1 0 + 2 * w) % 2 ≡ pick b 1 0
lowest true w = omega (arith, halved true w)
lowest false w = omega (arith, halved false w)

bit : (bs : List Bool) (i : ℕ) → weighed bs / 2 ^ i % 2 ≡ pick (get_or bs i false) 1 0
bit [] i = rw zero-div
bit (b ∷ bs) zero = rw div-one (lowest b (weighed bs))
bit (b ∷ bs) (suc i) = rw (pow-succ', ← div-div-eq-div-mul, halved b (weighed bs)) (bit bs i)

picks : (b : Bool) (new old : FrameSize) → pick (eqb (pick b 1 0) 1) new old ≡ pick b new old
picks true new old = refl
picks false new old = refl

-- slot i takes the new size if bit i is set, and else keeps its own
pub by_bits : (bs : List Bool) (new : FrameSize) (slots : List FrameSize) (i : ℕ) (d : FrameSize) → i < length slots
    → get_or (refreshed (weighed bs) new slots) i d ≡ pick (get_or bs i false) new (get_or slots i d)
by_bits bs new slots i d l =
    let z : 0 + i ≡ i = omega arith in
    each_at (slot_after (weighed bs) new) 0 slots i d l ∙ rw (z, bit bs i) (picks (get_or bs i false) new (get_or slots i d))

-- 1 is the flag of slot 0 alone, and 128 that of slot 7
module _ (new a b c d e f g h : FrameSize) where
  pub slot_0_only : refreshed 1 new (a ∷ b ∷ c ∷ d ∷ e ∷ f ∷ g ∷ h ∷ []) ≡ new ∷ b ∷ c ∷ d ∷ e ∷ f ∷ g ∷ h ∷ []
  unfolding each
  slot_0_only = refl

  pub slot_7_only : refreshed 128 new (a ∷ b ∷ c ∷ d ∷ e ∷ f ∷ g ∷ h ∷ []) ≡ a ∷ b ∷ c ∷ d ∷ e ∷ f ∷ g ∷ new ∷ []
  unfolding each
  slot_7_only = refl
