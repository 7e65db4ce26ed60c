-- VP9's section 8.6.1 once more, in its words, for segment i. The two tables of a depth are those of Quant.
use Rattle.std.specs.Prelude.{ℕ, ℤ, pos, nat_abs, ◌+ℤ◌}
use Rattle.base_enums.specs.declared.BitDepth.{BitDepth}
use Rattle.base_quantization.specs.declared.QuantizationParams.{QuantizationParams}
use Rattle.base_segmentation.specs.declared.SegmentationParams.{SegmentationParams}
use Rattle.base_shared.specs.Choice.{pick}
use Rattle.base_segmentation.specs.Vp9.{SEG_LVL_ALT_Q, «FeatureData», seg_feature_active}
use Rattle.segment_clamp.specs.Vp9.{clip3}
use Rattle.segment_tables.specs.Tables.{dc_table, ac_table, entry}
use Rattle.segment_quant.specs.declared.Scales.{Scales}

unfoldable pub dc_q : BitDepth → ℤ → ℤ
dc_q depth b = entry (dc_table depth) (nat_abs (clip3 (pos 0) (pos 255) b))

unfoldable pub ac_q : BitDepth → ℤ → ℤ
ac_q depth b = entry (ac_table depth) (nat_abs (clip3 (pos 0) (pos 255) b))

-- the data in the place of base_q_idx or added to it, where the feature is active
unfoldable pub get_qindex : QuantizationParams → SegmentationParams → ℕ → ℤ
get_qindex q s i =
    pick (seg_feature_active s i SEG_LVL_ALT_Q)
    (clip3 (pos 0) (pos 255) (pick s.abs_or_delta_update d (pos q.base_q_idx +ℤ d)))
    (pos q.base_q_idx)
  where
    d : ℤ
    d = «FeatureData» s i SEG_LVL_ALT_Q

-- get_ac_quant and get_dc_quant of plane 0, luma, and of the other planes, chroma
unfoldable pub quant_of : BitDepth → QuantizationParams → SegmentationParams → ℕ → Scales
quant_of depth q s i =
    record {
      luma_ac = ac_q depth (get_qindex q s i);
      luma_dc = dc_q depth (get_qindex q s i +ℤ q.delta_q_y_dc);
      chroma_ac = ac_q depth (get_qindex q s i +ℤ q.delta_q_uv_ac);
      chroma_dc = dc_q depth (get_qindex q s i +ℤ q.delta_q_uv_dc);
    }
