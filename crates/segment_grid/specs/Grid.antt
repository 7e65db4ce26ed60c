-- A grid of levels, four references by two modes, and the same levels as a row.
use Rattle.std.specs.Prelude.{ℕ, ◌+◌, ◌*◌, List, [], ◌∷◌, get_or}

-- the level of a reference in a mode
abbrev pub level : List (List ℕ) → ℕ → ℕ → ℕ
level grid reference mode = get_or (get_or grid reference []) mode 0

-- the grid whose level of reference r in mode m stands at r * 2 + m of the row
unfoldable pub grid_of : List ℕ → List (List ℕ)
grid_of row = modes 0 ∷ modes 1 ∷ modes 2 ∷ modes 3 ∷ []
  where
    modes : ℕ → List ℕ
    modes r = get_or row (r * 2) 0 ∷ get_or row (r * 2 + 1) 0 ∷ []

-- the row that holds a grid so
unfoldable pub row_of : List (List ℕ) → List ℕ
row_of grid =
    level grid 0 0
    ∷ level grid 0 1
    ∷ level grid 1 0
    ∷ level grid 1 1
    ∷ level grid 2 0
    ∷ level grid 2 1
    ∷ level grid 3 0
    ∷ level grid 3 1
    ∷ []
