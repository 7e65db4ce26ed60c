-- What holds of a quantizer table as a whole.
use Rattle.std.specs.Prelude.{◌≡◌, List, ℕ, ◌+◌, ◌<◌, ◌≤◌, length, get_or}
use Rattle.base_enums.specs.declared.BitDepth.{BitDepth}
use Rattle.base_enums.specs.declared.BitDepth.TheVariants.{Depth8, Depth10, Depth12}

-- 256 scales, each positive and within 16 signed bits, and each at least step above those before it
pub record Shaped (step : ℕ) (t : List ℕ) : Type 0 where
  pub size : length t ≡ 256
  pub positive : (i : ℕ) → i < 256 → 0 < get_or t i 0
  pub within : (i : ℕ) → i < 256 → get_or t i 0 < 32768
  pub rising : (i j : ℕ) → i < j → j < 256 → get_or t i 0 + step ≤ get_or t j 0

-- dc_qlookup has equal neighbours at depth 8 alone, and ac_qlookup nowhere
unfoldable pub dc_step : BitDepth → ℕ
dc_step Depth8 = 0
dc_step Depth10 = 1
dc_step Depth12 = 1
