-- BitDepth: the number of each variant, and the variant of each number.
use Rattle.std.specs.Prelude.{ℕ, List, [], ◌∷◌, Result}
use Rattle.base_enums.specs.Numbered.{numbered}
use Rattle.base_enums.specs.declared.BitDepth.{BitDepth}
use Rattle.base_enums.specs.declared.BitDepth.TheVariants.{Depth8, Depth10, Depth12}
use Rattle.base_enums.specs.declared.UnknownNumber.{UnknownNumber}

-- numbers
abbrev pub depth_number : BitDepth → ℕ
depth_number Depth8 = 8
depth_number Depth10 = 10
depth_number Depth12 = 12

abbrev pub depths : List BitDepth
depths = Depth8 ∷ Depth10 ∷ Depth12 ∷ []

abbrev pub depth_numbered : ℕ → Result BitDepth UnknownNumber
depth_numbered n = numbered depth_number depths n
