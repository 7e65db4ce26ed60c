-- The record reader's place: docs/RULES.md, "The record reader keeps the lent file and its place together".
-- Assumes nothing.
use Rattle.std.specs.Prelude.{ℕ, List, None, Some, Ok, Err}
use Rattle.std.specs.Borrow.{Bor}
use Rattle.ivf_file.specs.File.{header_bytes}
use Rattle.ivf_file.specs.Record.{RecordRead, record_of}
use Rattle.ivf_reader.specs.declared.RecordReader.{RecordReader}

-- at the first record, behind the file's header
abbrev pub opened : Bor (List ℕ) → RecordReader
opened f = record { file = f; place = header_bytes }

-- behind a record; the same place at the end, and where a record is cut short
abbrev pub reader_place_after : RecordRead → ℕ → ℕ
reader_place_after (Ok (Some r)) p = r.next
reader_place_after (Ok None) p = p
reader_place_after (Err e) p = p

-- the same file, at the place after what was read
abbrev pub moved_on : RecordReader → RecordReader
moved_on r = record { file = r.file; place = reader_place_after (record_of r.file.now r.place) r.place }
