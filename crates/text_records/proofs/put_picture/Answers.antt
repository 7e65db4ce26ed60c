use Rattle.text_records.specs.Header.{picture_text}
use Rattle.text_records.proofs.put_picture.Goals as goal

pub returns : goal.returns
unfolding picture_text
returns c = rw (← c.picture_row-row.ensures) c.put_form.ensures
