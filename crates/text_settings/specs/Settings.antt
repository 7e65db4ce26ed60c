-- The settings of a frame as text: docs/LONG-FORM.md.
-- Assumes nothing.
use Rattle.std.specs.Prelude.{ℕ, List, ◌++◌}
use Rattle.base_loop_filter.specs.declared.LoopFilterParams.{LoopFilterParams}
use Rattle.base_quantization.specs.declared.QuantizationParams.{QuantizationParams}
use Rattle.base_segmentation.specs.declared.SegmentationParams.{SegmentationParams}
use Rattle.text_numeral.specs.Ascii.{ascii}
use Rattle.text_form.specs.Form.{formed}
use Rattle.text_setting_rows.specs.Settings.{filter_row, quantization_row, segmentation_row, flag_row, data_row}

unfoldable pub filter_text : LoopFilterParams → List ℕ
filter_text lf =
    formed
    (ascii ", lf: LoopFilterParams { level: #, sharpness: #, delta_enabled: ?, delta_update: ?, "
    ++ ascii "update_ref_delta: [?, ?, ?, ?], ref_deltas: [%, %, %, %], update_mode_delta: [?, ?], mode_deltas: [%, %] }")
    (filter_row lf)

unfoldable pub quantization_text : QuantizationParams → List ℕ
quantization_text q =
    formed (ascii ", quant: QuantizationParams { base_q_idx: #, delta_q_y_dc: %, delta_q_uv_dc: %, delta_q_uv_ac: % }") (quantization_row q)

unfoldable pub switches_text : SegmentationParams → List ℕ
switches_text s =
    formed
    (ascii ", seg: SegmentationParams { enabled: ?, update_map: ?, tree_probs: [#, #, #, #, #, #, #], "
    ++ ascii "pred_probs: [#, #, #], temporal_update: ?, update_data: ?, abs_or_delta_update: ?")
    (segmentation_row s)

unfoldable pub features_text : SegmentationParams → List ℕ
features_text s =
    formed
    (ascii ", feature_enabled: [[?, ?, ?, ?], [?, ?, ?, ?], [?, ?, ?, ?], [?, ?, ?, ?], [?, ?, ?, ?], "
    ++ ascii "[?, ?, ?, ?], [?, ?, ?, ?], [?, ?, ?, ?]]")
    (flag_row s.feature_enabled)

unfoldable pub data_text : SegmentationParams → List ℕ
data_text s =
    formed
    (ascii ", feature_data: [[%, %, %, %], [%, %, %, %], [%, %, %, %], [%, %, %, %], [%, %, %, %], "
    ++ ascii "[%, %, %, %], [%, %, %, %], [%, %, %, %]] }")
    (data_row s.feature_data)

abbrev pub segmentation_text : SegmentationParams → List ℕ
segmentation_text s = switches_text s ++ (features_text s ++ data_text s)
