use mathlib.Core.Path.{refl}
use Rattle.text_record_rows.specs.Records.{slot_row}
use Rattle.text_record_rows.proofs.slot_row.Goals as goal

pub returns : goal.returns
unfolding slot_row
returns c = refl
