-- The same levels by what is made once for a frame: the levels by its own level.
use Rattle.std.specs.Prelude.{ℕ, Bool, List, [], ◌∷◌, eqb, ℤ, pos, get_or}
use Rattle.base_loop_filter.specs.declared.LoopFilterParams.{LoopFilterParams}
use Rattle.base_shared.specs.Choice.{pick}
use Rattle.segment_clamp.specs.Clamp.{clamp_to, changed}
use Rattle.segment_grid.specs.Grid.{level}
use Rattle.segment_levels.specs.Levels.{even, levels_at}

-- the levels by the frame's own level, over a grid of 0
unfoldable pub frame_levels : LoopFilterParams → List (List ℕ)
frame_levels lf = levels_at lf (clamp_to 63 (pos lf.level)) (even 0)

-- the frame's own levels with the entry that is kept
unfoldable pub kept : LoopFilterParams → List (List ℕ) → List (List ℕ) → List (List ℕ)
kept lf frame old =
    pick (eqb lf.level 0) frame
    (pick lf.delta_enabled
    ((level frame 0 0 ∷ level old 0 1 ∷ []) ∷ get_or frame 1 [] ∷ get_or frame 2 [] ∷ get_or frame 3 [] ∷ [])
    frame)

-- the levels by an active feature, or the frame's own
unfoldable pub levels_from : LoopFilterParams → List (List ℕ) → Bool → Bool → ℤ → List (List ℕ) → List (List ℕ)
levels_from lf frame active absolute d old =
    pick active (levels_at lf (clamp_to 63 (changed lf.level absolute d)) old) (kept lf frame old)
