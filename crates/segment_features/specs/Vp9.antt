-- What the features of segment i say, once more in VP9's words. Of the source is kept that reference and skip report
-- FeatureEnabled, where VP9 asks seg_feature_active.
use Rattle.std.specs.Prelude.{ℕ}
use Rattle.base_segmentation.specs.declared.SegmentationParams.{SegmentationParams}
use Rattle.base_segmentation.specs.Vp9.{SEG_LVL_ALT_Q, SEG_LVL_ALT_L, SEG_LVL_REF_FRAME, SEG_LVL_SKIP, «FeatureEnabled», «FeatureData», seg_feature_active}
use Rattle.segment_features.specs.declared.Features.{Features}

unfoldable pub features_said : SegmentationParams → ℕ → Features
features_said s i =
    record {
      absolute = s.abs_or_delta_update;
      quantizer_active = seg_feature_active s i SEG_LVL_ALT_Q;
      quantizer = «FeatureData» s i SEG_LVL_ALT_Q;
      level_active = seg_feature_active s i SEG_LVL_ALT_L;
      level = «FeatureData» s i SEG_LVL_ALT_L;
      reference_enabled = «FeatureEnabled» s i SEG_LVL_REF_FRAME;
      reference = «FeatureData» s i SEG_LVL_REF_FRAME;
      skip_enabled = «FeatureEnabled» s i SEG_LVL_SKIP;
    }
