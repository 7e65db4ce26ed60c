use Rattle.text_record_rows.specs.Records.{end_row}
use Rattle.text_record_rows.proofs.end_row.Goals as goal

pub returns : goal.returns
unfolding end_row
returns c = rw (c.from.ensures, c.from-2.ensures, c.from-3.ensures, c.from-4.ensures)
