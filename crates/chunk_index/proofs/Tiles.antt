-- The frames of a chunk that is split: how many there are, and that they tile the room.
-- Assumes nothing.
use Prim.Native.Nat.{ℕ, zero, suc, ◌+◌, ◌<◌, ◌≤◌}
use mathlib.Core.Path.{◌≡◌, refl, sym, ◌∙◌}
use mathlib.Core.Bool.{Bool, true, false}
use mathlib.Core.Logic.{⊎_elim}
use mathlib.Core.List.{List}
use native.Mathlib.Nat.{eq-or-lt_of_le}
use native.Mathlib.Numerals.{add-one}
use native.Mathlib.Omega.{arith}
use lib.ListN.{length, get_or, replicate, length-set, get_or-replicate, get_or-eq_default}
use lib.Seq.{get_or-set_same, get_or-set_other}
use Rattle.base_shared.specs.Choice.{pick}
use Rattle.chunk_index.specs.declared.Answer.TheVariants.{Frames}
use Rattle.chunk_index.specs.declared.Split.{Split}
use Rattle.chunk_index.specs.Layout.{Layout, last_byte, frames_in, indexed, whole, by_index, start, layout_of}
use Rattle.chunk_index.specs.Split.{places, filled, split_of}
use Rattle.chunk_index.specs.Table.{Indexed, NonePast, Tiles}
use Rattle.base_shared.proofs.Order.{below}
use Rattle.chunk_index.proofs.First.{placed_none}
use Rattle.chunk_index.proofs.Cases.{split_placed, layout_indexed, layout_whole}
use Rattle.chunk_index.proofs.Table.{exactly}

-- eight entries, of which n are filled
module _ {A : Type 0} (d : A) (f : ℕ → A) where
  length_filled : (n : ℕ) → length (filled d f n) ≡ 8
  unfolding filled
  length_filled zero = refl
  length_filled (suc n) = rw length-set (length_filled n)

  pub filled_at : (n i : ℕ) → n ≤ 8 → i < n → get_or (filled d f n) i d ≡ f i
  unfolding filled
  filled_at zero i l h = absurd (omega arith)
  filled_at (suc n) i l h =
      ⊎_elim
      (λ e. rw e (get_or-set_same (filled d f n) n (f n) d (omega (arith, length_filled n))))
      (λ k. get_or-set_other (filled d f n) n i (f n) d (λ e. omega arith) ∙ filled_at n i (omega arith) k)
      (eq-or-lt_of_le {n = i} {m = n} (omega arith))

  pub filled_rest : (n i : ℕ) → n ≤ i → get_or (filled d f n) i d ≡ d
  unfolding filled
  filled_rest zero i l = ⊎_elim (get_or-replicate 8 i d d) (λ k. get_or-eq_default (replicate 8 d) d k) (below i 8)
  filled_rest (suc n) i l = get_or-set_other (filled d f n) n i (f n) d (λ e. omega arith) ∙ filled_rest n i (omega arith)

  -- only those below n count
  pub filled_same : (g : ℕ → A) (n : ℕ) → ((i : ℕ) → i < n → f i ≡ g i) → filled d f n ≡ filled d g n
  unfolding filled
  filled_same g zero h = refl
  filled_same g (suc n) h = rw (filled_same g n (λ i l. h i (omega arith)), h n (omega arith))

laid_out : (l : Layout) → (1 ≤ l.frames) × (l.frames ≤ 8) → NonePast l → Tiles l (places l)
unfolding start
laid_out l r fits = record {
  count = refl;
  sizes = size;
  origin = at 0 r.0;
  next = λ i h. rw (at (i + 1) h, at i (omega arith), size i (omega arith), add-one);
  within = λ i h. rw (at i h, size i h) (fits i h);
  eight = (length_filled _ _ _, length_filled _ _ _);
  rest = λ i h. (filled_rest _ _ _ i h, filled_rest _ _ _ i h);
}
  where
    at : (i : ℕ) → i < l.frames → get_or (filled 0 (start l.size) l.frames) i 0 ≡ start l.size i
    at i h = filled_at _ _ _ i r.1 h

    size : (i : ℕ) → i < l.frames → get_or (filled 0 l.size l.frames) i 0 ≡ l.size i
    size i h = filled_at _ _ _ i r.1 h

module _ (s : List ℕ) where
  -- the index says how many frames there are, one to eight; without one there is one
  pub frames_indexed : Indexed s → (layout_of s).frames ≡ frames_in (last_byte s)
  frames_indexed h = rw (layout_indexed s h)

  pub frames_whole : (Indexed s → ⊥) → (layout_of s).frames ≡ 1
  frames_whole h = rw (layout_whole s h)

  pub frames_range : (1 ≤ (layout_of s).frames) × ((layout_of s).frames ≤ 8)
  unfolding layout_of
  frames_range = go (indexed s)
    where
      go : (b : Bool) → (1 ≤ (pick b (by_index s) (whole s)).frames) × ((pick b (by_index s) (whole s)).frames ≤ 8)
      go true = (omega arith, omega arith)
      go false = (omega arith, omega arith)

  room_inside : (layout_of s).room ≤ length s
  unfolding layout_of
  room_inside = go (indexed s)
    where
      go : (b : Bool) → (pick b (by_index s) (whole s)).room ≤ length s
      go true = omega arith
      go false = omega arith

  -- the frames tile the room from 0
  pub tiles : (n : ℕ) → (split_of s).answer ≡ Frames n → Tiles (layout_of s) (split_of s)
  tiles n e =
      let g = (exactly s (Frames n)).0 e in
      rw (split_placed s g.0.0 g.0.1, placed_none _ g.0.2) (laid_out (layout_of s) frames_range g.0.2)

-- what a caller of `split_chunk` knows of frame i
module _ (s : List ℕ) (r : Split) (e : r ≡ split_of s) (n : ℕ) (a : r.answer ≡ Frames n) where
  tiled : Tiles (layout_of s) r
  tiled = rw e (tiles s n (rw e at a))

  count_is : (layout_of s).frames ≡ n
  count_is = let c : Frames (layout_of s).frames ≡ Frames n = sym tiled.count ∙ a in cc

  pub count_range : (1 ≤ n) × (n ≤ 8)
  count_range = rw count_is at (frames_range s)

  pub frame_inside : (i : ℕ) → i < n → get_or r.at i 0 + get_or r.size i 0 ≤ length s
  frame_inside i h = omega (arith, tiled.within i (omega (arith, count_is)), room_inside s)
