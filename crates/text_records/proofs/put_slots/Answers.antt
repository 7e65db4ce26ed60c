use Rattle.text_records.specs.State.{slots_text}
use Rattle.text_records.proofs.put_slots.Goals as goal

pub returns : goal.returns
unfolding slots_text
returns c = rw (← c.slot_row-row.ensures) c.put_form.ensures
