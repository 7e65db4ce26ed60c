-- A number brought into its range, and a number that a feature changes.
use Rattle.std.specs.Prelude.{ℕ, min, Bool, true, false, ℤ, pos, negsuc, ◌+ℤ◌}

-- VP9's Clip3(0, hi, z): the number from 0 to hi that is nearest to z
unfoldable pub clamp_to : ℕ → ℤ → ℕ
clamp_to hi (pos n) = min n hi
clamp_to hi (negsuc n) = 0

-- an absolute feature's data d, or the base with d added
abbrev pub changed : ℕ → Bool → ℤ → ℤ
changed base true d = d
changed base false d = pos base +ℤ d
