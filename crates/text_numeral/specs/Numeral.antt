-- A number as text.
-- Assumes nothing.
use Rattle.std.specs.Prelude.{ℕ, zero, suc, ◌+◌, ◌/◌, ◌%◌, cond, List, [], ◌∷◌, ◌++◌, ltb}

-- the ASCII code of a digit
abbrev pub digit : ℕ → ℕ
digit d = 48 + d

-- in decimal, with at most f digits before the last: what all but the last digit say, if that is anything, and the
-- last digit
unfoldable pub numeral_of : ℕ → ℕ → List ℕ
numeral_of zero n = digit (n % 10) ∷ []
numeral_of (suc f) n = cond (ltb n 10) [] (numeral_of f (n / 10)) ++ (digit (n % 10) ∷ [])

-- 20 digits hold every number of 64 bits
unfoldable pub numeral : ℕ → List ℕ
numeral n = numeral_of 19 n
