-- Each level of the grid is VP9's for its reference and mode.
use mathlib.Core.Path.{◌≡◌, refl, ap}
use mathlib.Core.Bool.{Bool, true, false}
use mathlib.Core.List.{List}
use Prim.Native.Nat.{ℕ, ◌/◌, ◌^◌}
use lib.Dec.{eqb}
use lib.IntN.{ℤ, pos, ◌+ℤ◌}
use Rattle.base_loop_filter.specs.declared.LoopFilterParams.{LoopFilterParams}
use Rattle.base_shared.specs.Choice.{pick}
use Rattle.segment_clamp.specs.Vp9.{clip3}
use Rattle.segment_clamp.proofs.Vp9.{clamp_is_clip3}
use Rattle.segment_levels.specs.Levels.{level_moved, scaled, segment_level, pair_of, delta_grid, even, levels_at, levels_of}
use Rattle.segment_levels.specs.Vp9.{lvl_seg, deltas_added, filter_level}
use Rattle.segment_grid.specs.Vp9.{Reference, INTRA_FRAME, LAST_FRAME, GOLDEN_FRAME, ALTREF_FRAME, Mode, mode0, mode1, in_grid}

pub segment_level_is : (frame : ℕ) (active absolute : Bool) (d : ℤ)
    → pos (segment_level frame active absolute d) ≡ lvl_seg frame active absolute d
unfolding segment_level lvl_seg
segment_level_is frame active true d = clamp_is_clip3 63 (pick active d (pos frame))
segment_level_is frame active false d = clamp_is_clip3 63 (pick active (pos frame +ℤ d) (pos frame))

even_at : (l : ℕ) (r : Reference) (m : Mode) → in_grid (even l) r m ≡ l
even_at l INTRA_FRAME mode0 = refl
even_at l INTRA_FRAME mode1 = refl
even_at l LAST_FRAME mode0 = refl
even_at l LAST_FRAME mode1 = refl
even_at l GOLDEN_FRAME mode0 = refl
even_at l GOLDEN_FRAME mode1 = refl
even_at l ALTREF_FRAME mode0 = refl
even_at l ALTREF_FRAME mode1 = refl

moved_is : (l : ℕ) (delta : ℤ) → pos (level_moved l delta) ≡ clip3 (pos 0) (pos 63) (pos l +ℤ delta)
unfolding level_moved
moved_is l delta = clamp_is_clip3 63 (pos l +ℤ delta)

deltas_at : (lf : LoopFilterParams) (l : ℕ) (old : List (List ℕ)) (r : Reference) (m : Mode)
    → pos (in_grid (delta_grid lf.level l lf.ref_deltas lf.mode_deltas old) r m)
    ≡ deltas_added lf (lf.level / 2 ^ 5) (pos l) r m (pos (in_grid old r m))
unfolding delta_grid pair_of scaled deltas_added
deltas_at lf l old INTRA_FRAME mode0 = moved_is l _
deltas_at lf l old INTRA_FRAME mode1 = refl
deltas_at lf l old LAST_FRAME mode0 = moved_is l _
deltas_at lf l old LAST_FRAME mode1 = moved_is l _
deltas_at lf l old GOLDEN_FRAME mode0 = moved_is l _
deltas_at lf l old GOLDEN_FRAME mode1 = moved_is l _
deltas_at lf l old ALTREF_FRAME mode0 = moved_is l _
deltas_at lf l old ALTREF_FRAME mode1 = moved_is l _

levels_at_lem : (lf : LoopFilterParams) (l : ℕ) (old : List (List ℕ)) (r : Reference) (m : Mode)
    → pos (in_grid (levels_at lf l old) r m) ≡ filter_level lf (pos l) r m (pos (in_grid old r m))
unfolding levels_at filter_level
levels_at_lem lf l old r m = go (eqb lf.level 0) lf.delta_enabled
  where
    grid : List (List ℕ)
    grid = delta_grid lf.level l lf.ref_deltas lf.mode_deltas old

    go : (none deltas : Bool)
        → pos (in_grid (pick none (even 0) (pick deltas grid (even l))) r m)
        ≡ pick none (pos 0) (pick deltas (deltas_added lf (lf.level / 2 ^ 5) (pos l) r m (pos (in_grid old r m))) (pos l))
    go true deltas = ap pos (even_at 0 r m)
    go false true = deltas_at lf l old r m
    go false false = ap pos (even_at l r m)

pub level_is : (lf : LoopFilterParams) (active absolute : Bool) (d : ℤ) (old : List (List ℕ)) (r : Reference) (m : Mode)
    → pos (in_grid (levels_of lf active absolute d old) r m)
    ≡ filter_level lf (lvl_seg lf.level active absolute d) r m (pos (in_grid old r m))
unfolding levels_of
level_is lf active absolute d old r m =
    rw (← segment_level_is lf.level active absolute d) (levels_at_lem lf (segment_level lf.level active absolute d) old r m)
