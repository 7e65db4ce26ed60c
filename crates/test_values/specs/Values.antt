-- The values that bytes spell: tests/reader/DIGEST.md.
-- Assumes nothing.
use Rattle.std.specs.Prelude.{ℕ, ◌+◌, ◌*◌, ◌%◌, Bool, List, eqb, ltb, ℤ, pos, neg_ℤ, length, get_or, drop}
use Rattle.base_shared.specs.Choice.{pick}
use Rattle.base_enums.specs.declared.BitDepth.{BitDepth}
use Rattle.base_enums.specs.declared.BitDepth.TheVariants.{Depth8, Depth10, Depth12}
use Rattle.base_shared.specs.Lists.{values_of}

abbrev pub byte_at : List ℕ → ℕ → ℕ
byte_at s i = pick (ltb i (length s)) (get_or s i 0) 255

abbrev pub flag_at : List ℕ → ℕ → Bool
flag_at s i = eqb (byte_at s i) 1

-- the first bit of a magnitude doesn't count
abbrev pub magnitude8 : ℕ → ℕ
magnitude8 m = m % 128

abbrev pub magnitude16 : ℕ → ℕ → ℕ
magnitude16 high low = high % 128 * 256 + low

-- of a sign, a magnitude, and the type's least number without its sign
abbrev pub signed_by : ℕ → ℕ → ℕ → ℤ
signed_by limit sign m = pick (eqb sign 0) (pos m) (pick (eqb sign 1) (neg_ℤ (pos m)) (neg_ℤ (pos limit)))

unfoldable pub signed_byte_at : List ℕ → ℕ → ℤ
signed_byte_at s at = let b = drop at s in signed_by 128 (byte_at b 0) (magnitude8 (byte_at b 1))

unfoldable pub signed_short_at : List ℕ → ℕ → ℤ
signed_short_at s at = let b = drop at s in signed_by 32768 (byte_at b 0) (magnitude16 (byte_at b 1) (byte_at b 2))

unfoldable pub flags_at : List ℕ → ℕ → List Bool
flags_at s at = values_of (flag_at (drop at s)) 32

unfoldable pub signed_shorts_at : List ℕ → ℕ → List ℤ
signed_shorts_at s at = values_of (λ i. signed_short_at (drop at s) (i * 3)) 32

-- any byte but 0 and 1 is twelve bits
abbrev pub depth_read : ℕ → BitDepth
depth_read b = pick (eqb b 0) Depth8 (pick (eqb b 1) Depth10 Depth12)

abbrev pub depth_at : List ℕ → ℕ → BitDepth
depth_at s i = depth_read (byte_at s i)
