-- The first frame that ends past the room.
-- Assumes nothing.
use Prim.Native.Nat.{ℕ, ◌<◌, ◌≤◌}
use mathlib.Core.Path.{◌≡◌, sym}
use mathlib.Core.Logic.{◌⊎◌, inl, inr, ⊎_elim}
use native.Mathlib.Nat.{eq-or-lt_of_le}
use native.Mathlib.Omega.{arith}
use lib.Dec.{ltb}
use borrow.Author.Tests.{ltb-true, ltb-false, lt-ltb, le-ltb}
use Rattle.chunk_index.specs.Layout.{Layout, frame_end}
use Rattle.chunk_index.specs.declared.Answer.TheVariants.{Past}
use Rattle.chunk_index.specs.Split.{refused_split, places, first_past, placed}
use Rattle.chunk_index.specs.Table.{FirstPast, NonePast}
use Rattle.base_shared.proofs.Order.{below}
use Rattle.base_shared.proofs.First.{first_has, none_before}

module _ (l : Layout) where
  -- frames before the first that ends past the room end within it
  earlier_fits : (j : ℕ) → j < first_past l → frame_end l j ≤ l.room
  unfolding first_past
  earlier_fits j h = ltb-false _ _ (none_before (λ i. ltb l.room (frame_end l i)) 0 l.frames j (omega arith) h)

  it_is_past : first_past l < l.frames → l.room < frame_end l (first_past l)
  unfolding first_past
  it_is_past h = ltb-true _ _ (first_has (λ i. ltb l.room (frame_end l i)) 0 l.frames (omega arith))

  -- a first frame ends past the room, or none does
  pub past_or_none : ((first_past l < l.frames) × FirstPast l (first_past l)) ⊎ ((l.frames ≤ first_past l) × NonePast l)
  past_or_none =
      ⊎_elim (λ h. inl (h, record { among = h; earlier = earlier_fits; past = it_is_past h }))
      (λ h. inr (h, λ i k. earlier_fits i (omega arith)))
      (below (first_past l) l.frames)

  -- it is one frame
  one_first : (i j : ℕ) → FirstPast l i → FirstPast l j → i ≡ j
  one_first i j f g =
      ⊎_elim (λ h. absurd (omega (arith, g.earlier i h, f.past)))
      (λ h. ⊎_elim sym (λ k. absurd (omega (arith, f.earlier j k, g.past))) (eq-or-lt_of_le {n = j} {m = i} h))
      (below i j)

  -- what is answered then
  pub placed_past : (i : ℕ) → FirstPast l i → placed l ≡ refused_split (Past i)
  unfolding placed
  placed_past i f =
      ⊎_elim (λ g. rw (lt-ltb _ _ g.0, one_first (first_past l) i g.1 f))
      (λ n. absurd (omega (arith, n.1 i f.among, f.past)))
      past_or_none

  pub placed_none : NonePast l → placed l ≡ places l
  unfolding placed
  placed_none h =
      ⊎_elim (λ g. absurd (omega (arith, h (first_past l) g.0, g.1.past)))
      (λ n. rw (le-ltb _ _ n.0))
      past_or_none
