-- What single values of a header stand for: depth, range and subsampling of color_config() (VP9 6.2.2), and the
-- filter of read_interpolation_filter() (6.2.7).
-- Assumes nothing.
use Rattle.std.specs.Prelude.{ℕ, Bool, true, false}
use Rattle.base_shared.specs.Choice.{pick}
use Rattle.base_syntax.specs.Syntax.{flag}
use Rattle.base_enums.specs.ColorRange.{color_range_of}
use Rattle.base_enums.specs.InterpolationFilter.{filter_of_literal}
use Rattle.base_enums.specs.declared.BitDepth.{BitDepth}
use Rattle.base_enums.specs.declared.BitDepth.TheVariants.{Depth8, Depth10, Depth12}
use Rattle.base_enums.specs.declared.ColorRange.{ColorRange}
use Rattle.base_enums.specs.declared.ColorRange.TheVariants.{FullSwing}
use Rattle.base_enums.specs.declared.InterpolationFilter.{InterpolationFilter}
use Rattle.base_enums.specs.declared.InterpolationFilter.TheVariants.{Switchable}
use Rattle.grammar_tables.specs.Tables.{deep, sampled, srgb}

abbrev pub depth_of : ℕ → ℕ → BitDepth
depth_of profile bit = pick (deep profile) (pick (flag bit) Depth12 Depth10) Depth8

-- RGB is full range and not subsampled; profiles 0 and 2 are else 4:2:0
abbrev pub range_of : ℕ → ℕ → ColorRange
range_of space bit = pick (srgb space) FullSwing (color_range_of bit)

abbrev pub subsampling : ℕ → ℕ → ℕ → Bool
subsampling profile space bit = pick (srgb space) false (pick (sampled profile) (flag bit) true)

abbrev pub interpolation_of : ℕ → ℕ → InterpolationFilter
interpolation_of switchable raw = pick (flag switchable) Switchable (filter_of_literal raw)
