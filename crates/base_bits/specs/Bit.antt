-- The bits of a list of bytes, high bit of each byte first (VP9 4.10.2, 9.1), and the bits that spell a number.
-- Assumes nothing.
use Rattle.std.specs.Prelude.{ℕ, zero, suc, ◌+◌, ◌-◌, ◌*◌, ◌/◌, ◌%◌, ◌^◌, ◌<◌, min, ◌≡◌, Bool, true, List, [], ◌∷◌, ◌++◌, ltb, length, get_or}

-- the n bits that spell v, high bit first
unfoldable pub spell : ℕ → ℕ → List ℕ
spell zero v = []
spell (suc n) v = spell n (v / 2) ++ (v % 2 ∷ [])

-- the bits of some bytes, in order
unfoldable pub bits_of : List ℕ → List ℕ
bits_of [] = []
bits_of (b ∷ s) = spell 8 b ++ bits_of s

-- the bits of s begin with l
abbrev pub Begins : List ℕ → List ℕ → Type 0
Begins s l = (rest : List ℕ) × (bits_of s ≡ l ++ rest)

-- reading: the bit at place p, counted from the high bit of byte 0; 0 past the end
unfoldable pub bit_at : List ℕ → ℕ → ℕ
bit_at s p = get_or s (p / 8) 0 / 2 ^ (7 - p % 8) % 2

-- how many bits can be passed: all, but where they are 2^64 or more, which a place of 64 bits can't pass
unfoldable pub reach : List ℕ → ℕ
reach s = min (8 * length s) (2 ^ 64 - 1)

-- the bits l stand at place p of s
unfoldable pub Stands : List ℕ → ℕ → List ℕ → Type 0
Stands s p [] = Unit
Stands s p (b ∷ l) = (p < reach s) × (bit_at s p ≡ b) × Stands s (suc p) l

-- the number that the n bits from p on spell
unfoldable pub number : List ℕ → ℕ → ℕ → ℕ
number s p zero = 0
number s p (suc n) = number s p n * 2 + bit_at s (p + n)

-- n bits from p on are there; no bits are there anywhere
unfoldable pub fits : List ℕ → ℕ → ℕ → Bool
fits s p zero = true
fits s p (suc n) = ltb (p + n) (reach s)

-- how many of the n bits from p on are missing
unfoldable pub missing : List ℕ → ℕ → ℕ → ℕ
missing s p n = n - (reach s - p)
