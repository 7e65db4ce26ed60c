-- A whole IVF file from its values to its bytes: docs/RULES.md, "IVF".
-- Assumes nothing.
use Rattle.std.specs.Prelude.{ℕ, ◌^◌, ◌<◌, ◌≡◌, List, [], ◌∷◌, ◌++◌, map, ltb, length}
use Rattle.ivf_file.specs.declared.Record.{Record}
use Rattle.ivf_file.specs.Records.{Records, record_data}
use Rattle.ivf_file.specs.Spelling.{FileValues, spell_header, FileRanged, spell_record}

-- what a record says
pub record RecordValues : Type 0 where
  pub time : ℕ
  pub bytes : List ℕ

abbrev pub spell_values : RecordValues → List ℕ
spell_values v = spell_record v.time v.bytes

abbrev pub RecordRanged : RecordValues → Type 0
RecordRanged v = (length v.bytes < 256 ^ 4) × (v.time < 256 ^ 8)

-- records lie end to end
unfoldable pub spell_records : List RecordValues → List ℕ
spell_records [] = []
spell_records (v ∷ vs) = spell_values v ++ spell_records vs

abbrev pub RecordsRanged : List RecordValues → Type 0
RecordsRanged [] = Unit
RecordsRanged (v ∷ vs) = RecordRanged v × RecordsRanged vs

-- these bytes don't begin with a record
abbrev pub NoRecord : List ℕ → Type 0
NoRecord left = (v : RecordValues) (rest : List ℕ) → RecordRanged v → left ≡ spell_values v ++ rest → ⊥

-- a file is a header, records, and what is left over: nothing, or a record that is cut short
pub record Recording (f : List ℕ) (v : FileValues) (vs : List RecordValues) (left : List ℕ) : Type 0 where
  pub header_ranged : FileRanged v
  pub records_ranged : RecordsRanged vs
  pub no_more : NoRecord left
  pub spelled : f ≡ spell_header v ++ (spell_records vs ++ left)

-- what a record of a file says
abbrev pub record_values : List ℕ → Record → RecordValues
record_values f r = record { time = r.time; bytes = record_data f r }

-- a file's records say these values in order, and another is cut short exactly if something is left over
abbrev pub Say : List ℕ → Records → List RecordValues → List ℕ → Type 0
Say f rs vs left = (map (record_values f) rs.whole ≡ vs) × (rs.cut ≡ ltb 0 (length left))
