-- A record of an IVF file: docs/RULES.md, "IVF", and number 8.
-- Assumes nothing.
use Rattle.std.specs.Prelude.{ℕ, ◌+◌, Bool, Option, None, Some, Result, Ok, Err, List, eqb, ltb, length}
use Rattle.base_shared.specs.Choice.{pick}
use Rattle.base_little.specs.Little.{little}
use Rattle.ivf_file.specs.declared.Record.{Record}
use Rattle.ivf_file.specs.declared.Cut.{Cut}

-- length 4, time 8, then the data
abbrev pub data_start : ℕ → ℕ
data_start p = p + 12

abbrev pub data_length : List ℕ → ℕ → ℕ
data_length f p = little f p 4

abbrev pub data_end : List ℕ → ℕ → ℕ
data_end f p = data_start p + data_length f p

unfoldable pub record_at : List ℕ → ℕ → Record
record_at f p = record { length = data_length f p; time = little f (p + 4) 8; «data» = data_start p; next = data_end f p }

-- the record's header or data ends past the file's end, as it does from every place past that end
unfoldable pub cut_short : List ℕ → ℕ → Bool
cut_short f p = ltb (length f) (data_end f p)

-- a record, or none at the file's end, or one that is cut short
abbrev pub RecordRead : Type 0
RecordRead = Result (Option Record) Cut

-- a file may end right after its header or a record
unfoldable pub record_of : List ℕ → ℕ → RecordRead
record_of f p = pick (eqb p (length f)) (Ok None) (pick (cut_short f p) (Err (record {})) (Ok (Some (record_at f p))))

-- docs/RULES.md's number, 0 for a record and for the end
abbrev pub record_number : RecordRead → ℕ
record_number (Ok r) = 0
record_number (Err e) = 8
