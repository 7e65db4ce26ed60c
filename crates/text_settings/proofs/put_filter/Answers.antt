use Rattle.text_settings.specs.Settings.{filter_text}
use Rattle.text_settings.proofs.put_filter.Goals as goal

pub returns : goal.returns
unfolding filter_text
returns c = rw (← c.filter_row-row.ensures) c.put_form.ensures
