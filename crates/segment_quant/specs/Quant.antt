-- VP9's dequantization functions, section 8.6.1, for one segment of a frame.
use Rattle.std.specs.Prelude.{ℕ, Bool, true, false, List, ℤ, pos, ◌+ℤ◌}
use Rattle.base_enums.specs.declared.BitDepth.{BitDepth}
use Rattle.base_enums.specs.declared.SegLvl.TheVariants.{AltQ}
use Rattle.base_quantization.specs.declared.QuantizationParams.{QuantizationParams}
use Rattle.base_segmentation.specs.declared.SegmentationParams.{SegmentationParams}
use Rattle.base_shared.specs.Choice.{pick}
use Rattle.base_segmentation.specs.SegmentationParams.{feature_active, feature_data}
use Rattle.segment_clamp.specs.Clamp.{clamp_to, changed}
use Rattle.segment_tables.specs.Tables.{dc_table, ac_table, entry}
use Rattle.segment_quant.specs.declared.Scales.{Scales}

-- an active feature's data d in the place of base_q_idx or added to it, clamped; else base_q_idx
unfoldable pub qindex_of : ℕ → Bool → Bool → ℤ → ℕ
qindex_of base active absolute d = pick active (clamp_to 255 (changed base absolute d)) base

-- get_qindex() of segment i
unfoldable pub qindex : QuantizationParams → SegmentationParams → ℕ → ℕ
qindex q s i = qindex_of q.base_q_idx (feature_active s i AltQ) s.abs_or_delta_update (feature_data s i AltQ)

-- dc_q(b) and ac_q(b) for a table: the scale at the index nearest to b
unfoldable pub scale_at : List ℤ → ℤ → ℤ
scale_at table b = entry table (clamp_to 255 b)

-- what is added to an index for luma (true) or chroma
abbrev pub dc_delta : QuantizationParams → Bool → ℤ
dc_delta q true = q.delta_q_y_dc
dc_delta q false = q.delta_q_uv_dc

abbrev pub ac_delta : QuantizationParams → Bool → ℤ
ac_delta q true = pos 0
ac_delta q false = q.delta_q_uv_ac

-- get_dc_quant and get_ac_quant of segment i, for luma (true) or chroma
unfoldable pub dc_quant : BitDepth → QuantizationParams → SegmentationParams → ℕ → Bool → ℤ
dc_quant depth q s i luma = scale_at (dc_table depth) (pos (qindex q s i) +ℤ dc_delta q luma)

unfoldable pub ac_quant : BitDepth → QuantizationParams → SegmentationParams → ℕ → Bool → ℤ
ac_quant depth q s i luma = scale_at (ac_table depth) (pos (qindex q s i) +ℤ ac_delta q luma)

-- the four scales that two tables give at index b
unfoldable pub scales_at : List ℤ → List ℤ → QuantizationParams → ℕ → Scales
scales_at dc ac q b =
    record {
      luma_ac = scale_at ac (pos b +ℤ ac_delta q true);
      luma_dc = scale_at dc (pos b +ℤ dc_delta q true);
      chroma_ac = scale_at ac (pos b +ℤ ac_delta q false);
      chroma_dc = scale_at dc (pos b +ℤ dc_delta q false);
    }

-- the four scales of segment i
unfoldable pub scales_of : BitDepth → QuantizationParams → SegmentationParams → ℕ → Scales
scales_of depth q s i =
    record {
      luma_ac = ac_quant depth q s i true;
      luma_dc = dc_quant depth q s i true;
      chroma_ac = ac_quant depth q s i false;
      chroma_dc = dc_quant depth q s i false;
    }
