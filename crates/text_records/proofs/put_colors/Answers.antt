use Rattle.text_records.specs.Header.{color_text}
use Rattle.text_records.proofs.put_colors.Goals as goal

pub returns : goal.returns
unfolding color_text
returns c = rw (← c.color_row-row.ensures) c.put_form.ensures
