-- What is said of a whole IVF file, in order: docs/RULES.md, "IVF", and numbers 7, 8 and 9.
-- Assumes nothing.
use Rattle.std.specs.Prelude.{ℕ, List, [], ◌∷◌, ◌++◌, map, ltb}
use Rattle.base_shared.specs.Choice.{pick}
use Rattle.ivf_file.specs.declared.Record.{Record}
use Rattle.ivf_file.specs.File.{is_ivf}
use Rattle.ivf_file.specs.Records.{Records, records_of, record_data}

pub data Said : Type 0 where
  -- 7, and nothing else
  no_file : Said
  -- it has its header
  opened : Said
  -- a record's data
  chunk : List ℕ → Said
  -- 9: a whole record holds over 65,536 data bytes
  too_long : Said
  -- 8: the last record is cut short
  cut : Said
  end : Said

abbrev pub record_said : List ℕ → Record → Said
record_said f r = pick (ltb 65536 r.length) too_long (chunk (record_data f r))

abbrev pub records_said : List ℕ → Records → List Said
records_said f rs = map (record_said f) rs.whole ++ (pick rs.cut cut end ∷ [])

unfoldable pub file_said : List ℕ → List Said
file_said f = pick (is_ivf f) (opened ∷ records_said f (records_of f)) (no_file ∷ [])
