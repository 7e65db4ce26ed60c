-- ColorSpace: the number of each variant, and the variant of each number.
use Rattle.std.specs.Prelude.{ℕ, List, [], ◌∷◌, Result, get_or}
use Rattle.base_enums.specs.Numbered.{numbered}
use Rattle.base_enums.specs.declared.ColorSpace.{ColorSpace}
use Rattle.base_enums.specs.declared.ColorSpace.TheVariants.{Unknown, Bt601, Bt709, Smpte170, Smpte240, Bt2020, Reserved2, CsSrgb}
use Rattle.base_enums.specs.declared.UnknownNumber.{UnknownNumber}

-- record: the variants in the order of their numbers
abbrev pub color_spaces : List ColorSpace
color_spaces = Unknown ∷ Bt601 ∷ Bt709 ∷ Smpte170 ∷ Smpte240 ∷ Bt2020 ∷ Reserved2 ∷ CsSrgb ∷ []

-- every number past the last variant's gives the last variant
abbrev pub color_space_of : ℕ → ColorSpace
color_space_of n = get_or color_spaces n CsSrgb

-- numbers
abbrev pub color_space_number : ColorSpace → ℕ
color_space_number Unknown = 0
color_space_number Bt601 = 1
color_space_number Bt709 = 2
color_space_number Smpte170 = 3
color_space_number Smpte240 = 4
color_space_number Bt2020 = 5
color_space_number Reserved2 = 6
color_space_number CsSrgb = 7

abbrev pub color_space_numbered : ℕ → Result ColorSpace UnknownNumber
color_space_numbered n = numbered color_space_number color_spaces n
