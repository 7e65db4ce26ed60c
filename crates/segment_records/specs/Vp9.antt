-- A segment's record once more, by VP9's sections 8.6.1 and 8.8.1: each level for its reference and mode, each scale for
-- its plane. Of the source is kept, besides what the levels say, that reference and skip report FeatureEnabled, where
-- VP9 asks seg_feature_active.
use Rattle.std.specs.Prelude.{ℕ, ◌≡◌, ℤ, pos, length}
use Rattle.base_types.specs.declared.header.Header.{Header}
use Rattle.base_segmentation.specs.Vp9.{SEG_LVL_ALT_L, SEG_LVL_REF_FRAME, SEG_LVL_SKIP, «FeatureEnabled», «FeatureData», seg_feature_active}
use Rattle.segment_grid.specs.Vp9.{Reference, Mode, in_row}
use Rattle.segment_levels.specs.Vp9.{lvl_seg, filter_level}
use Rattle.segment_quant.specs.Vp9.{quant_of}
use Rattle.segment_records.specs.declared.Segmentation.{Segmentation}

-- lvlSeg of segment i
abbrev pub level_of : Header → ℕ → ℤ
level_of h i =
    lvl_seg h.lf.level (seg_feature_active h.seg i SEG_LVL_ALT_L) h.seg.abs_or_delta_update
    («FeatureData» h.seg i SEG_LVL_ALT_L)

-- what a record is after a frame with header h, if it was old
pub record After (h : Header) (i : ℕ) (old new : Segmentation) : Type 0 where
  pub levels : length new.lvl_lookup ≡ 8
  pub level : (r : Reference) (m : Mode)
      → pos (in_row new.lvl_lookup r m) ≡ filter_level h.lf (level_of h i) r m (pos (in_row old.lvl_lookup r m))
  pub luma_ac : new.luma_ac_quant_scale ≡ (quant_of h.bit_depth h.quant h.seg i).luma_ac
  pub luma_dc : new.luma_dc_quant_scale ≡ (quant_of h.bit_depth h.quant h.seg i).luma_dc
  pub chroma_ac : new.chroma_ac_quant_scale ≡ (quant_of h.bit_depth h.quant h.seg i).chroma_ac
  pub chroma_dc : new.chroma_dc_quant_scale ≡ (quant_of h.bit_depth h.quant h.seg i).chroma_dc
  pub reference_enabled : new.reference_frame_enabled ≡ «FeatureEnabled» h.seg i SEG_LVL_REF_FRAME
  pub reference : new.reference_frame ≡ «FeatureData» h.seg i SEG_LVL_REF_FRAME
  pub skip_enabled : new.reference_skip_enabled ≡ «FeatureEnabled» h.seg i SEG_LVL_SKIP
