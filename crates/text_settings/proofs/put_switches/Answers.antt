use Rattle.text_settings.specs.Settings.{switches_text}
use Rattle.text_settings.proofs.put_switches.Goals as goal

pub returns : goal.returns
unfolding switches_text
returns c = rw (← c.segmentation_row-row.ensures) c.put_form.ensures
