-- InterpolationFilter: the number of each variant, and the variant of each number.
use Rattle.std.specs.Prelude.{ℕ, List, [], ◌∷◌, Result, get_or}
use Rattle.base_enums.specs.Numbered.{numbered}
use Rattle.base_enums.specs.declared.InterpolationFilter.{InterpolationFilter}
use Rattle.base_enums.specs.declared.InterpolationFilter.TheVariants.{EightTap, EightTapSmooth, EightTapSharp, Bilinear, Switchable}
use Rattle.base_enums.specs.declared.UnknownNumber.{UnknownNumber}

-- record: VP9's two-bit literals in order; Switchable has a bit of its own
abbrev pub literals : List InterpolationFilter
literals = EightTapSmooth ∷ EightTap ∷ EightTapSharp ∷ Bilinear ∷ []

-- every number past the last literal gives Bilinear
abbrev pub filter_of_literal : ℕ → InterpolationFilter
filter_of_literal n = get_or literals n Bilinear

-- numbers
abbrev pub filter_number : InterpolationFilter → ℕ
filter_number EightTap = 0
filter_number EightTapSmooth = 1
filter_number EightTapSharp = 2
filter_number Bilinear = 3
filter_number Switchable = 4

abbrev pub filters : List InterpolationFilter
filters = EightTap ∷ EightTapSmooth ∷ EightTapSharp ∷ Bilinear ∷ Switchable ∷ []

abbrev pub filter_numbered : ℕ → Result InterpolationFilter UnknownNumber
filter_numbered n = numbered filter_number filters n
