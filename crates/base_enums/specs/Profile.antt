-- Profile: the number of each variant, and the variant of each number.
use Rattle.std.specs.Prelude.{ℕ, List, [], ◌∷◌, Result, get_or}
use Rattle.base_enums.specs.Numbered.{numbered}
use Rattle.base_enums.specs.declared.Profile.{Profile}
use Rattle.base_enums.specs.declared.Profile.TheVariants.{Profile0, Profile1, Profile2, Profile3}
use Rattle.base_enums.specs.declared.UnknownNumber.{UnknownNumber}

-- record: the variants in the order of their numbers
abbrev pub profiles : List Profile
profiles = Profile0 ∷ Profile1 ∷ Profile2 ∷ Profile3 ∷ []

-- every number past the last variant's gives the last variant
abbrev pub profile_of : ℕ → Profile
profile_of n = get_or profiles n Profile3

-- numbers
abbrev pub profile_number : Profile → ℕ
profile_number Profile0 = 0
profile_number Profile1 = 1
profile_number Profile2 = 2
profile_number Profile3 = 3

abbrev pub profile_numbered : ℕ → Result Profile UnknownNumber
profile_numbered n = numbered profile_number profiles n
