use Rattle.text_record_rows.specs.Records.{source_row}
use Rattle.text_record_rows.proofs.source_row.Goals as goal

pub returns : goal.returns
unfolding source_row
returns c = rw (c.from.ensures, c.from-2.ensures, c.from-3.ensures, c.from-4.ensures, c.from-5.ensures)
