-- Placing frames one after the other, as the loop does it.
-- Assumes nothing.
use Prim.Native.Nat.{ℕ, suc, ◌+◌, ◌-◌, ◌<◌, ◌≤◌}
use mathlib.Core.Path.{◌≡◌, refl}
use mathlib.Core.List.{List}
use native.Mathlib.Nat.{sub-zero}
use native.Mathlib.Numerals.{add-one}
use native.Mathlib.Omega.{arith}
use lib.Dec.{ltb}
use lib.ListN.{length, set, replicate}
use borrow.Author.Tests.{lt-ltb, le-ltb}
use Rattle.chunk_index.specs.declared.Answer.TheVariants.{Frames, Past}
use Rattle.chunk_index.specs.Layout.{Layout, whole, start, frame_end}
use Rattle.base_shared.specs.Lists.{first}
use Rattle.chunk_index.specs.Split.{refused_split, filled, first_past, placed}

-- i frames are placed, the next one starts at `at`, and the search for one past the room, from here on, gives what
-- the whole search gives
pub record Walked (l : Layout) (i at : ℕ) (ats sizes : List ℕ) : Type 0 where
  pub within : i ≤ l.frames
  pub room : at ≤ l.room
  pub here : at ≡ start l.size i
  pub starts : ats ≡ filled 0 (start l.size) i
  pub sized : sizes ≡ filled 0 l.size i
  pub same : first (λ j. ltb l.room (frame_end l j)) i (l.frames - i) ≡ first_past l

pub walked_none : (l : Layout) → Walked l 0 0 (replicate 8 0) (replicate 8 0)
unfolding start filled first_past
walked_none l = record { within = omega arith; room = omega arith; here = refl; starts = refl; sized = refl; same = rw sub-zero }

module _ {l : Layout} {i at : ℕ} {ats sizes : List ℕ} (w : Walked l i at ats sizes) where
  -- the next frame has z bytes
  module _ (h : i < l.frames) (z : ℕ) (e : z ≡ l.size i) where
    left : l.frames - i ≡ suc (l.frames - (i + 1))
    left = omega arith

    pub walked_more : z ≤ l.room - at → Walked l (i + 1) (at + z) (set ats i at) (set sizes i z)
    unfolding first start filled
    walked_more f =
        let fits : frame_end l i ≤ l.room = omega (arith, w.here) in
        record {
          within = omega arith;
          room = omega arith;
          here = rw (add-one, w.here, e);
          starts = rw (add-one, w.here, w.starts);
          sized = rw (add-one, w.sized, e);
          same = (rw (left, le-ltb l.room (frame_end l i) fits) at w.same);
        }

    pub walked_past : l.room - at < z → refused_split (Past i) ≡ placed l
    unfolding first placed
    walked_past f =
        let past : l.room < frame_end l i = omega (arith, w.here) in
        let p : i ≡ first_past l = (rw (left, lt-ltb l.room (frame_end l i) past) at w.same) in
        rw (← p, lt-ltb i l.frames h)

  pub walked_all : l.frames ≤ i → record { answer = Frames l.frames; at = ats; size = sizes } ≡ placed l
  unfolding first placed
  walked_all f =
      let n : i ≡ l.frames = omega (arith, w.within) in
      let z : l.frames - i ≡ 0 = omega arith in
      let p : i ≡ first_past l = (rw z at w.same) in
      rw (w.starts, w.sized, ← p, ← n, le-ltb i i (omega arith))

-- one frame, the whole chunk, ends with its room
pub one_placed : (s : List ℕ) → record { answer = Frames 1; at = replicate 8 0; size = set (replicate 8 0) 0 (length s) } ≡ placed (whole s)
unfolding start filled
one_placed s = walked_all (walked_more (walked_none (whole s)) (omega arith) (length s) refl (omega arith)) (omega arith)
