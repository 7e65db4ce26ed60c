-- The settings of a frame as rows.
-- Assumes nothing.
use Rattle.std.specs.Prelude.{ℕ, Bool, List, [], ◌∷◌, ℤ}
use Rattle.base_loop_filter.specs.declared.LoopFilterParams.{LoopFilterParams}
use Rattle.base_quantization.specs.declared.QuantizationParams.{QuantizationParams}
use Rattle.base_segmentation.specs.declared.SegmentationParams.{SegmentationParams}
use Rattle.base_shared.specs.Lists.{values_of}
use Rattle.text_signed.specs.Number.{bit, lifted, flag_in, lifted_in, byte_in}

unfoldable pub filter_row : LoopFilterParams → List ℕ
filter_row lf =
    lf.level
    ∷ lf.sharpness
    ∷ bit lf.delta_enabled
    ∷ bit lf.delta_update
    ∷ flag_in lf.update_ref_delta 0
    ∷ flag_in lf.update_ref_delta 1
    ∷ flag_in lf.update_ref_delta 2
    ∷ flag_in lf.update_ref_delta 3
    ∷ lifted_in lf.ref_deltas 0
    ∷ lifted_in lf.ref_deltas 1
    ∷ lifted_in lf.ref_deltas 2
    ∷ lifted_in lf.ref_deltas 3
    ∷ flag_in lf.update_mode_delta 0
    ∷ flag_in lf.update_mode_delta 1
    ∷ lifted_in lf.mode_deltas 0
    ∷ lifted_in lf.mode_deltas 1
    ∷ []

unfoldable pub quantization_row : QuantizationParams → List ℕ
quantization_row q =
    q.base_q_idx
    ∷ lifted q.delta_q_y_dc
    ∷ lifted q.delta_q_uv_dc
    ∷ lifted q.delta_q_uv_ac
    ∷ []

unfoldable pub segmentation_row : SegmentationParams → List ℕ
segmentation_row s =
    bit s.enabled
    ∷ bit s.update_map
    ∷ byte_in s.tree_probs 0
    ∷ byte_in s.tree_probs 1
    ∷ byte_in s.tree_probs 2
    ∷ byte_in s.tree_probs 3
    ∷ byte_in s.tree_probs 4
    ∷ byte_in s.tree_probs 5
    ∷ byte_in s.tree_probs 6
    ∷ byte_in s.pred_probs 0
    ∷ byte_in s.pred_probs 1
    ∷ byte_in s.pred_probs 2
    ∷ bit s.temporal_update
    ∷ bit s.update_data
    ∷ bit s.abs_or_delta_update
    ∷ []

unfoldable pub flag_row : List Bool → List ℕ
flag_row s = values_of (flag_in s) 32

unfoldable pub data_row : List ℤ → List ℕ
data_row s = values_of (lifted_in s) 32
