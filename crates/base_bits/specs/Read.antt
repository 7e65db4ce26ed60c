-- What reading n bits at a place answers.
-- Assumes nothing.
use Rattle.std.specs.Prelude.{ℕ, ◌+◌, Bool, List, leb}
use Rattle.std.specs.Prelude.{Result, Ok, Err}
use Rattle.base_bits.specs.declared.BitsError.{BitsError}
use Rattle.base_bits.specs.declared.BitsError.TheVariants.{Short, TooWide}
use Rattle.base_bits.specs.declared.Cursor.{Cursor}
use Rattle.base_bits.specs.Bit.{number, fits}
use Rattle.base_shared.specs.Choice.{pick}

-- over 31 bits are too wide; fewer are short, or their number and the place past them
unfoldable pub read_bits : List ℕ → ℕ → ℕ → Result (ℕ × Cursor) BitsError
read_bits s p n = pick (leb n 31) (pick (fits s p n) (Ok (number s p n, record { at = p + n })) (Err Short)) (Err TooWide)

-- a field that is there only if b holds
unfoldable pub read_bits_if : Bool → List ℕ → ℕ → ℕ → Result (ℕ × Cursor) BitsError
read_bits_if b s p n = pick b (read_bits s p n) (Ok (0, record { at = p }))
