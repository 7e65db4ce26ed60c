-- What stands next at a place of a whole file, by ivf's `record_of`, and what may be said while a part of the file is
-- at hand. proofs/Whole.antt shows that `next_record` says so.
-- Assumes nothing.
use Rattle.std.specs.Prelude.{ℕ, ◌+◌, ◌≤◌, ◌<◌, ◌≡◌, ◌⊎◌, Bool, true, false, ◌&&◌, None, Some, Ok, Err, List, leb, ltb, length}
use Rattle.base_shared.specs.Choice.{pick}
use Rattle.ivf_file.specs.Record.{data_start, data_length, RecordRead, record_of}
use Rattle.ivf_file.specs.Table.{CutShort}
use Rattle.ivf_arriving.specs.declared.Next.{Next}
use Rattle.ivf_arriving.specs.declared.Next.TheVariants.{End, More, Cut, Data, Long}

-- what ivf says, of a record its length alone
abbrev pub told : RecordRead → Next
told (Ok None) = End
told (Err e) = Cut
told (Ok (Some r)) = Data r.length

-- the header of the record at p is whole, and its length over the limit
abbrev pub too_long : List ℕ → ℕ → Bool
too_long f p = leb (data_start p) (length f) && ltb 65536 (data_length f p)

unfoldable pub next_at : List ℕ → ℕ → Next
next_at f p = pick (too_long f p) (Long (data_length f p)) (told (record_of f p))

-- the answer is the right one, or, where the file hasn't ended, `More`
abbrev pub Right : Bool → Next → Next → Type 0
Right true answer right = answer ≡ right
Right false answer right = (answer ≡ More) ⊎ (answer ≡ right)

-- m bytes from p on lack a part of the record's header, or of data that isn't over the limit
abbrev pub TooFew : List ℕ → ℕ → ℕ → Type 0
TooFew f p m = (m < 12) ⊎ ((data_length f p ≤ 65536) × (m < 12 + data_length f p))

-- 9: a whole record holds over 65,536 data bytes
abbrev pub TooMuch : List ℕ → ℕ → Type 0
TooMuch f p = (CutShort f p → ⊥) × (65536 < data_length f p)
