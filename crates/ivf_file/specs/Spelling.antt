-- An IVF file from its values to its bytes: docs/RULES.md, "IVF".
-- Assumes nothing.
use Rattle.std.specs.Prelude.{ℕ, ◌+◌, ◌^◌, ◌<◌, ◌≡◌, List, ◌++◌, length}
use Rattle.base_little.specs.Little.{spell_little}
use Rattle.ivf_file.specs.declared.IvfHeader.{IvfHeader}
use Rattle.ivf_file.specs.declared.Record.{Record}
use Rattle.ivf_file.specs.File.{dkif, vp90}

-- what a file's header says; its reader hands out all but version and unused
pub record FileValues : Type 0 where
  pub version : ℕ
  pub header : IvfHeader
  pub unused : ℕ

-- the four bytes DKIF, version 2, header size 2, VP90, width 2, height 2, rate 4, scale 4, count 4, unused 4; numbers
-- low byte first
unfoldable pub spell_header : FileValues → List ℕ
spell_header v =
    dkif
    ++ (spell_little 2 v.version
    ++ (spell_little 2 32
    ++ (vp90
    ++ (spell_little 2 v.header.width
    ++ (spell_little 2 v.header.height
    ++ (spell_little 4 v.header.rate
    ++ (spell_little 4 v.header.scale
    ++ (spell_little 4 v.header.count
    ++ spell_little 4 v.unused))))))))

pub record FileRanged (v : FileValues) : Type 0 where
  pub version : v.version < 256 ^ 2
  pub width : v.header.width < 256 ^ 2
  pub height : v.header.height < 256 ^ 2
  pub rate : v.header.rate < 256 ^ 4
  pub scale : v.header.scale < 256 ^ 4
  pub count : v.header.count < 256 ^ 4
  pub unused : v.unused < 256 ^ 4

-- the file begins with the spelling of a header
pub record FileBegins (f : List ℕ) (h : IvfHeader) : Type 0 where
  pub values : FileValues
  pub in_range : FileRanged values
  pub same : values.header ≡ h
  pub rest : List ℕ
  pub spelled : f ≡ spell_header values ++ rest

-- a record: length 4, time 8, data
unfoldable pub spell_record : ℕ → List ℕ → List ℕ
spell_record time bytes = spell_little 4 (length bytes) ++ (spell_little 8 time ++ bytes)

-- what is read of a record that stands at p
abbrev pub record_from : ℕ → ℕ → List ℕ → Record
record_from p time bytes = record { length = length bytes; time = time; «data» = p + 12; next = p + 12 + length bytes }

-- the spelling of a record stands at p
pub record RecordStands (f : List ℕ) (p : ℕ) (r : Record) : Type 0 where
  pub before : List ℕ
  pub bytes : List ℕ
  pub rest : List ℕ
  pub at : length before ≡ p
  pub length_fits : length bytes < 256 ^ 4
  pub time_fits : r.time < 256 ^ 8
  pub same : r ≡ record_from p r.time bytes
  pub spelled : f ≡ before ++ (spell_record r.time bytes ++ rest)
