-- The limits of a frame's tile columns: calc_min_log2_tile_cols() and calc_max_log2_tile_cols() (VP9 6.2.14).
-- Assumes nothing.
use Rattle.std.specs.Prelude.{ℕ, suc, ◌*◌, ◌/◌, ◌^◌, ◌≤◌, ◌<◌, Bool, leb, ltb}

-- 64 x 2^k reaches w; and w / 2^(k + 1) falls below 4
abbrev pub reaches : ℕ → ℕ → Bool
reaches w k = leb w (64 * 2 ^ k)

abbrev pub falls : ℕ → ℕ → Bool
falls w k = ltb (w / 2 ^ suc k) 4

-- what they are: the smallest k with 64 x 2^k >= w, and the largest k with w / 2^k >= 4, or 0
pub record Smallest (w k : ℕ) : Type 0 where
  pub enough : w ≤ 64 * 2 ^ k
  pub none_less : (j : ℕ) → j < k → 64 * 2 ^ j < w

pub record Largest (w k : ℕ) : Type 0 where
  pub holds : 0 < k → 4 ≤ w / 2 ^ k
  pub none_more : (j : ℕ) → k < j → w / 2 ^ j < 4
