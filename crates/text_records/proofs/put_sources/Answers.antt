use Rattle.text_records.specs.Header.{source_text}
use Rattle.text_records.proofs.put_sources.Goals as goal

pub returns : goal.returns
unfolding source_text
returns c = rw (← c.source_row-row.ensures) c.put_form.ensures
