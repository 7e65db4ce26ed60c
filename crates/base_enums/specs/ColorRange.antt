-- ColorRange: the number of each variant, and the variant of each number.
use Rattle.std.specs.Prelude.{ℕ, List, [], ◌∷◌, Result, get_or}
use Rattle.base_enums.specs.Numbered.{numbered}
use Rattle.base_enums.specs.declared.ColorRange.{ColorRange}
use Rattle.base_enums.specs.declared.ColorRange.TheVariants.{StudioSwing, FullSwing}
use Rattle.base_enums.specs.declared.UnknownNumber.{UnknownNumber}

-- record: the variants in the order of their numbers
abbrev pub color_ranges : List ColorRange
color_ranges = StudioSwing ∷ FullSwing ∷ []

-- every number past the last variant's gives the last variant
abbrev pub color_range_of : ℕ → ColorRange
color_range_of n = get_or color_ranges n FullSwing

-- numbers
abbrev pub color_range_number : ColorRange → ℕ
color_range_number StudioSwing = 0
color_range_number FullSwing = 1

abbrev pub color_range_numbered : ℕ → Result ColorRange UnknownNumber
color_range_numbered n = numbered color_range_number color_ranges n
