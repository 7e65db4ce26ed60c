-- The records of a whole file, in order: docs/RULES.md, "IVF". A file may end right after its header or a record;
-- where it ends elsewhere its last record is cut short, number 8.
-- Assumes nothing.
use Rattle.std.specs.Prelude.{ℕ, zero, suc, Bool, true, false, None, Some, Ok, Err, List, [], ◌∷◌, length, take, drop}
use Rattle.ivf_file.specs.declared.Record.{Record}
use Rattle.ivf_file.specs.File.{header_bytes}
use Rattle.ivf_file.specs.Record.{RecordRead, record_of}

-- those that are whole, and whether another is cut short
pub record Records : Type 0 where
  pub whole : List Record
  pub cut : Bool

abbrev pub none_but : Bool → Records
none_but cut = record { whole = []; cut = cut }

abbrev pub before : Record → Records → Records
before r rs = record { whole = r ∷ rs.whole; cut = rs.cut }

-- what is read at a place, and those from the place after it on
abbrev pub follow : RecordRead → (ℕ → Records) → Records
follow (Ok None) others = none_but false
follow (Err e) others = none_but true
follow (Ok (Some r)) others = before r (others r.next)

-- from p on, at most n
unfoldable pub records_from : ℕ → List ℕ → ℕ → Records
records_from zero f p = none_but false
records_from (suc n) f p = follow (record_of f p) (records_from n f)

-- behind the file's header; each takes 12 bytes or more
abbrev pub records_of : List ℕ → Records
records_of f = records_from (length f) f header_bytes

abbrev pub record_data : List ℕ → Record → List ℕ
record_data f r = take r.length (drop r.«data» f)
