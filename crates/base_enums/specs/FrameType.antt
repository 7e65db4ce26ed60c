-- FrameType: the number of each variant, and the variant of each number.
use Rattle.std.specs.Prelude.{ℕ, List, [], ◌∷◌, Result}
use Rattle.base_enums.specs.Numbered.{numbered}
use Rattle.base_enums.specs.declared.FrameType.{FrameType}
use Rattle.base_enums.specs.declared.FrameType.TheVariants.{KeyFrame, InterFrame}
use Rattle.base_enums.specs.declared.UnknownNumber.{UnknownNumber}

-- numbers
abbrev pub frame_type_number : FrameType → ℕ
frame_type_number KeyFrame = 0
frame_type_number InterFrame = 1

abbrev pub frame_types : List FrameType
frame_types = KeyFrame ∷ InterFrame ∷ []

abbrev pub frame_type_numbered : ℕ → Result FrameType UnknownNumber
frame_type_numbered n = numbered frame_type_number frame_types n
