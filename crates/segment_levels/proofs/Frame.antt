-- What is made once for a frame gives the same levels.
use mathlib.Core.Path.{◌≡◌, refl}
use mathlib.Core.Bool.{Bool, true, false}
use mathlib.Core.List.{List, [], ◌∷◌}
use Prim.Native.Nat.{ℕ}
use lib.Dec.{eqb}
use lib.IntN.{ℤ, pos}
use lib.ListN.{get_or}
use Rattle.base_loop_filter.specs.declared.LoopFilterParams.{LoopFilterParams}
use Rattle.base_shared.specs.Choice.{pick}
use Rattle.segment_clamp.specs.Clamp.{clamp_to, changed}
use Rattle.segment_grid.specs.Grid.{level}
use Rattle.segment_levels.specs.Levels.{delta_grid, even, segment_level, levels_at, levels_of}
use Rattle.segment_levels.specs.Once.{frame_levels, kept, levels_from}

kept_levels : (lf : LoopFilterParams) (l : ℕ) (old : List (List ℕ)) → kept lf (levels_at lf l (even 0)) old ≡ levels_at lf l old
unfolding kept levels_at delta_grid
kept_levels lf l old = go (eqb lf.level 0) lf.delta_enabled
  where
    at : Bool → Bool → List (List ℕ) → List (List ℕ)
    at none deltas grid =
        pick none (even 0)
        (pick deltas (delta_grid lf.level l lf.ref_deltas lf.mode_deltas grid) (even l))

    keeping : List (List ℕ) → List (List ℕ)
    keeping grid = (level grid 0 0 ∷ level old 0 1 ∷ []) ∷ get_or grid 1 [] ∷ get_or grid 2 [] ∷ get_or grid 3 [] ∷ []

    go : (none deltas : Bool)
        → pick none (at none deltas (even 0)) (pick deltas (keeping (at none deltas (even 0))) (at none deltas (even 0))) ≡ at none deltas old
    go true deltas = refl
    go false true = refl
    go false false = refl

-- a feature that is not active leaves the frame's level
pub same_levels : (lf : LoopFilterParams) (active absolute : Bool) (d : ℤ) (old : List (List ℕ))
    → levels_from lf (frame_levels lf) active absolute d old ≡ levels_of lf active absolute d old
unfolding levels_from frame_levels levels_of segment_level
same_levels lf active absolute d old = go active
  where
    z : ℤ
    z = changed lf.level absolute d

    go : (on : Bool)
        → pick on (levels_at lf (clamp_to 63 z) old) (kept lf (levels_at lf (clamp_to 63 (pos lf.level)) (even 0)) old)
        ≡ levels_at lf (clamp_to 63 (pick on z (pos lf.level))) old
    go true = refl
    go false = kept_levels lf (clamp_to 63 (pos lf.level)) old
