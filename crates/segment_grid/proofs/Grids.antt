-- A row of eight and a grid of four by two hold the same levels: each comes back from the other.
use mathlib.Core.Path.{◌≡◌, refl}
use mathlib.Core.List.{List, [], ◌∷◌}
use Prim.Native.Nat.{ℕ}
use Rattle.segment_grid.specs.Grid.{grid_of, row_of}

module _ (a b c d e f g h : ℕ) where
  abbrev row : List ℕ
  row = a ∷ b ∷ c ∷ d ∷ e ∷ f ∷ g ∷ h ∷ []

  abbrev grid : List (List ℕ)
  grid = (a ∷ b ∷ []) ∷ (c ∷ d ∷ []) ∷ (e ∷ f ∷ []) ∷ (g ∷ h ∷ []) ∷ []

  pub row_back : row_of (grid_of row) ≡ row
  unfolding row_of grid_of
  row_back = refl

  pub grid_back : grid_of (row_of grid) ≡ grid
  unfolding row_of grid_of
  grid_back = refl
