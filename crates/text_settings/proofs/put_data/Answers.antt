use Rattle.text_settings.specs.Settings.{data_text}
use Rattle.text_settings.proofs.put_data.Goals as goal

pub returns : goal.returns
unfolding data_text
returns c = rw (← c.data_row-row.ensures) c.put_form.ensures
