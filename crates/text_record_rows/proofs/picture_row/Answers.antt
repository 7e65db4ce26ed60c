use Rattle.text_record_rows.specs.Records.{picture_row}
use Rattle.text_record_rows.proofs.picture_row.Goals as goal

pub returns : goal.returns
unfolding picture_row
returns c = rw c.from.ensures
