use Rattle.text_record_rows.specs.Records.{color_row}
use Rattle.text_record_rows.proofs.color_row.Goals as goal

pub returns : goal.returns
unfolding color_row
returns c = rw (c.from.ensures, c.from-2.ensures, c.from-3.ensures)
