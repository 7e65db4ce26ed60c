-- A row and a grid hold the same level of each reference in each mode.
use mathlib.Core.Path.{◌≡◌, refl, sym, ◌∙◌}
use mathlib.Core.List.{List}
use Prim.Native.Nat.{ℕ, zero, suc, ◌<◌}
use native.Mathlib.Omega.{arith}
use lib.ListN.{length, get_or}
use lib.Seq.{ext_get_or}
use Rattle.segment_grid.specs.Grid.{grid_of, row_of}
use Rattle.segment_grid.specs.Vp9.{Reference, INTRA_FRAME, LAST_FRAME, GOLDEN_FRAME, ALTREF_FRAME, Mode, mode0, mode1, in_grid, in_row}

pub row_at : (grid : List (List ℕ)) (r : Reference) (m : Mode) → in_row (row_of grid) r m ≡ in_grid grid r m
unfolding row_of
row_at grid INTRA_FRAME mode0 = refl
row_at grid INTRA_FRAME mode1 = refl
row_at grid LAST_FRAME mode0 = refl
row_at grid LAST_FRAME mode1 = refl
row_at grid GOLDEN_FRAME mode0 = refl
row_at grid GOLDEN_FRAME mode1 = refl
row_at grid ALTREF_FRAME mode0 = refl
row_at grid ALTREF_FRAME mode1 = refl

pub grid_at : (row : List ℕ) (r : Reference) (m : Mode) → in_grid (grid_of row) r m ≡ in_row row r m
unfolding grid_of
grid_at row INTRA_FRAME mode0 = refl
grid_at row INTRA_FRAME mode1 = refl
grid_at row LAST_FRAME mode0 = refl
grid_at row LAST_FRAME mode1 = refl
grid_at row GOLDEN_FRAME mode0 = refl
grid_at row GOLDEN_FRAME mode1 = refl
grid_at row ALTREF_FRAME mode0 = refl
grid_at row ALTREF_FRAME mode1 = refl

-- and there is no level besides
pub row_same : (a b : List ℕ) → length a ≡ 8 → length b ≡ 8 → ((r : Reference) (m : Mode) → in_row a r m ≡ in_row b r m) → a ≡ b
row_same a b e f same = ext_get_or 0 a b (e ∙ sym f) (λ i h. at i (omega (arith, e, h)))
  where
    at : (i : ℕ) → i < 8 → get_or a i 0 ≡ get_or b i 0
    at zero h = same INTRA_FRAME mode0
    at (suc zero) h = same INTRA_FRAME mode1
    at (suc (suc zero)) h = same LAST_FRAME mode0
    at (suc (suc (suc zero))) h = same LAST_FRAME mode1
    at (suc (suc (suc (suc zero)))) h = same GOLDEN_FRAME mode0
    at (suc (suc (suc (suc (suc zero))))) h = same GOLDEN_FRAME mode1
    at (suc (suc (suc (suc (suc (suc zero)))))) h = same ALTREF_FRAME mode0
    at (suc (suc (suc (suc (suc (suc (suc zero))))))) h = same ALTREF_FRAME mode1
    at (suc (suc (suc (suc (suc (suc (suc (suc i)))))))) h = absurd (omega arith)
