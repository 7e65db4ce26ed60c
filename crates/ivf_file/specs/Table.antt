-- docs/RULES.md's table, numbers 7 and 8, stated on a file's bytes. proofs/Table.antt shows that `file_of` and
-- `record_of` are so.
-- Assumes nothing.
use Rattle.std.specs.Prelude.{ℕ, ◌+◌, ◌≤◌, ◌<◌, ◌≡◌, ◌⊎◌, None, Some, Result, Ok, Err, List, length, take, drop}
use Rattle.ivf_file.specs.declared.IvfHeader.{IvfHeader}
use Rattle.ivf_file.specs.declared.NotIvf.{NotIvf}
use Rattle.ivf_file.specs.declared.Record.{Record}
use Rattle.ivf_file.specs.File.{dkif, vp90, header_size, file_header_of}
use Rattle.ivf_file.specs.Record.{data_length, record_at, RecordRead}

-- the file lacks those bytes at that place
abbrev pub Lacks : List ℕ → ℕ → List ℕ → Type 0
Lacks f at bs = take (length bs) (drop at f) ≡ bs → ⊥

-- 7: the file has under 32 bytes, or lacks DKIF, header size 32 or VP90
abbrev pub BadFile : List ℕ → Type 0
BadFile f = (length f < 32) ⊎ (Lacks f 0 dkif ⊎ ((header_size f ≡ 32 → ⊥) ⊎ Lacks f 8 vp90))

abbrev pub FileWhen : Result IvfHeader NotIvf → List ℕ → Type 0
FileWhen (Err e) f = BadFile f
FileWhen (Ok h) f = (BadFile f → ⊥) × (h ≡ file_header_of f)

-- 8: the record's 12-byte header or its data is cut short
abbrev pub CutShort : List ℕ → ℕ → Type 0
CutShort f p = (length f < p + 12) ⊎ (length f < p + 12 + data_length f p)

-- a file may end right after its header or a record
abbrev pub RecordWhen : RecordRead → List ℕ → ℕ → Type 0
RecordWhen (Ok None) f p = p ≡ length f
RecordWhen (Err e) f p = (p ≡ length f → ⊥) × CutShort f p
RecordWhen (Ok (Some r)) f p = (CutShort f p → ⊥) × (r ≡ record_at f p)

-- a record's parts, from its place on, lie end to end inside the file
pub record Lies (f : List ℕ) (p : ℕ) (r : Record) : Type 0 where
  pub header_first : r.«data» ≡ p + 12
  pub then_data : r.next ≡ r.«data» + r.length
  pub inside : r.next ≤ length f
