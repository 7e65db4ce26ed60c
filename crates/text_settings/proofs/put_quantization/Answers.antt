use Rattle.text_settings.specs.Settings.{quantization_text}
use Rattle.text_settings.proofs.put_quantization.Goals as goal

pub returns : goal.returns
unfolding quantization_text
returns c = rw (← c.quantization_row-row.ensures) c.put_form.ensures
