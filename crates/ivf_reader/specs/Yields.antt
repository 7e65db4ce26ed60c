-- What a reader answers when it is called again and again: docs/RULES.md, "IVF".
-- Assumes nothing.
use Rattle.std.specs.Prelude.{ℕ, zero, suc, Bool, true, false, None, Some, Ok, Err, List, [], ◌∷◌}
use Rattle.ivf_file.specs.declared.Record.{Record}
use Rattle.ivf_file.specs.Record.{RecordRead, record_of}
use Rattle.ivf_file.specs.Records.{Records}
use Rattle.ivf_reader.specs.declared.RecordReader.{RecordReader}
use Rattle.ivf_reader.specs.Reader.{moved_on}

-- the answers of the first n calls of `next_record`
unfoldable pub yields : ℕ → RecordReader → List RecordRead
yields zero r = []
yields (suc n) r = record_of r.file.now r.place ∷ yields n (moved_on r)

-- records in order, and then one answer for ever
unfoldable pub in_turn : ℕ → List Record → RecordRead → List RecordRead
in_turn zero rs last = []
in_turn (suc n) [] last = last ∷ in_turn n [] last
in_turn (suc n) (r ∷ rs) last = Ok (Some r) ∷ in_turn n rs last

-- 8 where another record is cut short, else the end
abbrev pub last_of : Bool → RecordRead
last_of true = Err (record {})
last_of false = Ok None

abbrev pub all_in_turn : ℕ → Records → List RecordRead
all_in_turn n rs = in_turn n rs.whole (last_of rs.cut)
