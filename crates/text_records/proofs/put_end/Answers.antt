use Rattle.text_records.specs.Header.{end_text}
use Rattle.text_records.proofs.put_end.Goals as goal

pub returns : goal.returns
unfolding end_text
returns c = rw (← c.end_row-row.ensures) c.put_form.ensures
