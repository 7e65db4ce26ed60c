-- What the features of segment i say. A feature is active where it is enabled and segmentation is on; as in the source,
-- reference and skip report the enabled bits even where segmentation is off.
use Rattle.std.specs.Prelude.{ℕ}
use Rattle.base_enums.specs.declared.SegLvl.TheVariants.{AltQ, AltL, RefFrame, LvlSkip}
use Rattle.base_segmentation.specs.declared.SegmentationParams.{SegmentationParams}
use Rattle.base_segmentation.specs.SegmentationParams.{feature_enabled, feature_active, feature_data}
use Rattle.segment_features.specs.declared.Features.{Features}

unfoldable pub features_of : SegmentationParams → ℕ → Features
features_of s i =
    record {
      absolute = s.abs_or_delta_update;
      quantizer_active = feature_active s i AltQ;
      quantizer = feature_data s i AltQ;
      level_active = feature_active s i AltL;
      level = feature_data s i AltL;
      reference_enabled = feature_enabled s i RefFrame;
      reference = feature_data s i RefFrame;
      skip_enabled = feature_enabled s i LvlSkip;
    }
