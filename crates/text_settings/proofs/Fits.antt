-- How long the settings' text can be.
-- Assumes nothing.
use Prim.Native.Nat.{◌≤◌}
use mathlib.Core.Path.{refl}
use native.Mathlib.Omega.{arith}
use lib.ListN.{length, length-append}
use Rattle.base_loop_filter.specs.declared.LoopFilterParams.{LoopFilterParams}
use Rattle.base_quantization.specs.declared.QuantizationParams.{QuantizationParams}
use Rattle.base_segmentation.specs.declared.SegmentationParams.{SegmentationParams}
use Rattle.text_form.specs.Form.{is_mark}
use Rattle.text_form.proofs.Fits.{marks_in, within}
use Rattle.text_settings.specs.Settings.{filter_text, quantization_text, switches_text, features_text, data_text, segmentation_text}

pub filter_fits : (lf : LoopFilterParams) → length (filter_text lf) ≤ 600
unfolding filter_text marks_in is_mark
filter_fits lf = within _ _ 600 refl

pub quantization_fits : (q : QuantizationParams) → length (quantization_text q) ≤ 200
unfolding quantization_text marks_in is_mark
quantization_fits q = within _ _ 200 refl

switches_fit : (s : SegmentationParams) → length (switches_text s) ≤ 600
unfolding switches_text marks_in is_mark
switches_fit s = within _ _ 600 refl

features_fit : (s : SegmentationParams) → length (features_text s) ≤ 900
unfolding features_text marks_in is_mark
features_fit s = within _ _ 900 refl

data_fit : (s : SegmentationParams) → length (data_text s) ≤ 900
unfolding data_text marks_in is_mark
data_fit s = within _ _ 900 refl

pub segmentation_fits : (s : SegmentationParams) → length (segmentation_text s) ≤ 2400
segmentation_fits s = simp length-append (omega (arith, switches_fit s, features_fit s, data_fit s))
