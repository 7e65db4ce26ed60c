-- Numbers in a row, and the text of one.
-- Assumes nothing.
use Rattle.std.specs.Prelude.{ℕ, suc, ◌+◌, ◌-◌, Bool, true, false, List, ◌++◌, ltb, ℤ, pos, negsuc, get_or}
use Rattle.base_shared.specs.Choice.{pick}
use Rattle.text_numeral.specs.Ascii.{ascii}
use Rattle.text_numeral.specs.Numeral.{numeral}

abbrev pub bit : Bool → ℕ
bit false = 0
bit true = 1

-- 65,536 more than the number: no number of 16 bits is below that
abbrev pub lifted : ℤ → ℕ
lifted (pos n) = 65536 + n
lifted (negsuc n) = 65536 - suc n

-- a number with a sign as text
unfoldable pub signed_numeral : ℤ → List ℕ
signed_numeral (pos n) = numeral n
signed_numeral (negsuc n) = ascii "-" ++ numeral (suc n)

-- the text of the number that stands as n: `lowered_back` (proofs/Lowered.antt) ties it to `signed_numeral`
unfoldable pub lowered_text : ℕ → List ℕ
lowered_text n = pick (ltb n 65536) (ascii "-" ++ numeral (65536 - n)) (numeral (n - 65536))

-- the i-th of some flags, and of some numbers with a sign
abbrev pub flag_in : List Bool → ℕ → ℕ
flag_in s i = bit (get_or s i false)

abbrev pub lifted_in : List ℤ → ℕ → ℕ
lifted_in s i = lifted (get_or s i (pos 0))

abbrev pub byte_in : List ℕ → ℕ → ℕ
byte_in s i = get_or s i 0
