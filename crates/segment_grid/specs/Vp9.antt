-- The references and the modes by VP9's names and numbers, and where the level of each stands.
use Rattle.std.specs.Prelude.{ℕ, ◌+◌, ◌*◌, List, get_or}
use Rattle.segment_grid.specs.Grid.{level}

pub data Reference : Type 0 where
  INTRA_FRAME : Reference
  LAST_FRAME : Reference
  GOLDEN_FRAME : Reference
  ALTREF_FRAME : Reference

abbrev pub ref_frame : Reference → ℕ
ref_frame INTRA_FRAME = 0
ref_frame LAST_FRAME = 1
ref_frame GOLDEN_FRAME = 2
ref_frame ALTREF_FRAME = 3

-- mode 0 is ZEROMV, and mode 1 any other
pub data Mode : Type 0 where
  mode0 : Mode
  mode1 : Mode

abbrev pub mode_number : Mode → ℕ
mode_number mode0 = 0
mode_number mode1 = 1

-- lvl_lookup[r][m] in a grid, and in a row
abbrev pub in_grid : List (List ℕ) → Reference → Mode → ℕ
in_grid grid r m = level grid (ref_frame r) (mode_number m)

abbrev pub in_row : List ℕ → Reference → Mode → ℕ
in_row row r m = get_or row (ref_frame r * 2 + mode_number m) 0
