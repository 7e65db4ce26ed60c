use mathlib.Core.Path.{refl}
use Rattle.text_setting_rows.specs.Settings.{segmentation_row}
use Rattle.text_setting_rows.proofs.segmentation_row.Goals as goal

pub returns : goal.returns
unfolding segmentation_row
returns c = refl
