use Rattle.text_settings.specs.Settings.{features_text}
use Rattle.text_settings.proofs.put_features.Goals as goal

pub returns : goal.returns
unfolding features_text
returns c = rw (← c.flag_row-row.ensures) c.put_form.ensures
