-- ReferenceFrameType: the number of each variant, and the variant of each number.
use Rattle.std.specs.Prelude.{ℕ, List, [], ◌∷◌, Result}
use Rattle.base_enums.specs.Numbered.{numbered}
use Rattle.base_enums.specs.declared.ReferenceFrameType.{ReferenceFrameType}
use Rattle.base_enums.specs.declared.ReferenceFrameType.TheVariants.{Intra, Last, Golden, AltRef}
use Rattle.base_enums.specs.declared.UnknownNumber.{UnknownNumber}

-- numbers
abbrev pub reference_number : ReferenceFrameType → ℕ
reference_number Intra = 0
reference_number Last = 1
reference_number Golden = 2
reference_number AltRef = 3

abbrev pub references : List ReferenceFrameType
references = Intra ∷ Last ∷ Golden ∷ AltRef ∷ []

abbrev pub reference_numbered : ℕ → Result ReferenceFrameType UnknownNumber
reference_numbered n = numbered reference_number references n
