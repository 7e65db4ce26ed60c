-- segments: a segment's features once more, in VP9's words.
use Rattle.std.specs.Prelude.{ℕ, ◌+◌, ◌*◌, Bool, false, ◌&&◌, ℤ, pos, get_or}
use Rattle.base_segmentation.specs.declared.SegmentationParams.{SegmentationParams}

abbrev pub SEG_LVL_ALT_Q : ℕ
SEG_LVL_ALT_Q = 0

abbrev pub SEG_LVL_ALT_L : ℕ
SEG_LVL_ALT_L = 1

abbrev pub SEG_LVL_REF_FRAME : ℕ
SEG_LVL_REF_FRAME = 2

abbrev pub SEG_LVL_SKIP : ℕ
SEG_LVL_SKIP = 3

-- FeatureEnabled[i][feature] and FeatureData[i][feature], in rows of eight segments by four features
abbrev pub «FeatureEnabled» : SegmentationParams → ℕ → ℕ → Bool
«FeatureEnabled» s i feature = get_or s.feature_enabled (i * 4 + feature) false

abbrev pub «FeatureData» : SegmentationParams → ℕ → ℕ → ℤ
«FeatureData» s i feature = get_or s.feature_data (i * 4 + feature) (pos 0)

-- seg_feature_active(feature) in segment i
abbrev pub seg_feature_active : SegmentationParams → ℕ → ℕ → Bool
seg_feature_active s i feature = s.enabled && «FeatureEnabled» s i feature
