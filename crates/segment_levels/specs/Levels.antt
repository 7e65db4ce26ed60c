-- The filter levels of a segment: VP9's section 8.8.1. Kept from the source: n goes by the frame's level, where VP9
-- goes by the segment's.
use Rattle.std.specs.Prelude.{ℕ, ◌/◌, ◌^◌, Bool, List, [], ◌∷◌, eqb, get_or, ℤ, pos, ◌+ℤ◌, ◌*ℤ◌}
use Rattle.base_loop_filter.specs.declared.LoopFilterParams.{LoopFilterParams}
use Rattle.base_shared.specs.Choice.{pick}
use Rattle.segment_clamp.specs.Clamp.{clamp_to, changed}
use Rattle.segment_grid.specs.Grid.{level}

-- a level with a delta added, from 0 to 63
unfoldable pub level_moved : ℕ → ℤ → ℕ
level_moved l delta = clamp_to 63 (pos l +ℤ delta)

-- a delta times 2^n, where n is the frame's level / 32 rounded down
unfoldable pub scaled : ℕ → ℤ → ℤ
scaled frame delta = delta *ℤ pos (2 ^ (frame / 32))

-- the frame's level, replaced by an active feature's data d (absolute) or with d added, from 0 to 63
unfoldable pub segment_level : ℕ → Bool → Bool → ℤ → ℕ
segment_level frame active absolute d = clamp_to 63 (pick active (changed frame absolute d) (pos frame))

-- the levels of a reference in the two modes: its delta and the mode's are added
unfoldable pub pair_of : ℕ → ℕ → ℤ → List ℤ → List ℕ
pair_of frame l reference modes = mode 0 ∷ mode 1 ∷ []
  where
    mode : ℕ → ℕ
    mode m = level_moved l (scaled frame reference +ℤ scaled frame (get_or modes m (pos 0)))

-- intra has no modes: it adds its delta alone, and its second place keeps the old level, as in the source
unfoldable pub delta_grid : ℕ → ℕ → List ℤ → List ℤ → List (List ℕ) → List (List ℕ)
delta_grid frame l refs modes old =
    (level_moved l (scaled frame (reference 0)) ∷ level old 0 1 ∷ [])
    ∷ pair_of frame l (reference 1) modes
    ∷ pair_of frame l (reference 2) modes
    ∷ pair_of frame l (reference 3) modes
    ∷ []
  where
    reference : ℕ → ℤ
    reference r = get_or refs r (pos 0)

-- one level everywhere
abbrev pub even : ℕ → List (List ℕ)
even l = (l ∷ l ∷ []) ∷ (l ∷ l ∷ []) ∷ (l ∷ l ∷ []) ∷ (l ∷ l ∷ []) ∷ []

-- the levels at a segment's level l, from those before the frame
unfoldable pub levels_at : LoopFilterParams → ℕ → List (List ℕ) → List (List ℕ)
levels_at lf l old =
    pick (eqb lf.level 0) (even 0)
    (pick lf.delta_enabled (delta_grid lf.level l lf.ref_deltas lf.mode_deltas old) (even l))

-- the levels of a segment, by its level feature
unfoldable pub levels_of : LoopFilterParams → Bool → Bool → ℤ → List (List ℕ) → List (List ℕ)
levels_of lf active absolute d = levels_at lf (segment_level lf.level active absolute d)
