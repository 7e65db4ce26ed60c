-- Numbers of whole bytes, low byte first: le(n) of VP9's Annex B, and IVF's.
-- Assumes nothing.
use Rattle.std.specs.Prelude.{ℕ, zero, suc, ◌+◌, ◌*◌, ◌/◌, ◌%◌, Bool, true, Result, Ok, Err, List, [], ◌∷◌, leb, ltb, length, get_or}
use Rattle.base_shared.specs.Choice.{pick}
use Rattle.base_little.specs.declared.LittleError.{LittleError}
use Rattle.base_little.specs.declared.LittleError.TheVariants.{Short, TooWide}

-- the number of the n bytes from `at` on
unfoldable pub little : List ℕ → ℕ → ℕ → ℕ
little s at zero = 0
little s at (suc n) = get_or s at 0 + 256 * little s (at + 1) n

-- the n bytes that spell v
unfoldable pub spell_little : ℕ → ℕ → List ℕ
spell_little zero v = []
spell_little (suc n) v = v % 256 ∷ spell_little n (v / 256)

-- n bytes from `at` on are there; no bytes are there anywhere
unfoldable pub holds : List ℕ → ℕ → ℕ → Bool
holds s at zero = true
holds s at (suc n) = ltb (at + n) (length s)

unfoldable pub read_little : List ℕ → ℕ → ℕ → Result ℕ LittleError
read_little s at n = pick (leb n 8) (pick (holds s at n) (Ok (little s at n)) (Err Short)) (Err TooWide)
