-- Of each of the eight segments, a feature is what VP9 says under its number.
-- Assumes nothing.
use mathlib.Core.Path.{◌≡◌}
use Prim.Native.Nat.{ℕ, ◌<◌}
use borrow.Author.Tests.{lt-ltb}
use Rattle.base_enums.specs.declared.SegLvl.TheVariants.{AltQ, AltL, RefFrame, LvlSkip}
use Rattle.base_segmentation.specs.declared.SegmentationParams.{SegmentationParams}
use Rattle.base_segmentation.specs.SegmentationParams.{feature_enabled, feature_active, feature_data}
use Rattle.base_segmentation.specs.Vp9.{SEG_LVL_ALT_Q, SEG_LVL_ALT_L, SEG_LVL_REF_FRAME, SEG_LVL_SKIP, «FeatureEnabled», «FeatureData», seg_feature_active}

module _ (s : SegmentationParams) (i : ℕ) (h : i < 8) where
  pub alt_q : (feature_active s i AltQ ≡ seg_feature_active s i SEG_LVL_ALT_Q) × (feature_data s i AltQ ≡ «FeatureData» s i SEG_LVL_ALT_Q)
  alt_q = let e = lt-ltb i 8 h in (rw e, rw e)

  pub alt_l : (feature_active s i AltL ≡ seg_feature_active s i SEG_LVL_ALT_L) × (feature_data s i AltL ≡ «FeatureData» s i SEG_LVL_ALT_L)
  alt_l = let e = lt-ltb i 8 h in (rw e, rw e)

  pub ref_frame_lem : (feature_enabled s i RefFrame ≡ «FeatureEnabled» s i SEG_LVL_REF_FRAME) × (feature_data s i RefFrame ≡ «FeatureData» s i SEG_LVL_REF_FRAME)
  ref_frame_lem = let e = lt-ltb i 8 h in (rw e, rw e)

  pub skip : feature_enabled s i LvlSkip ≡ «FeatureEnabled» s i SEG_LVL_SKIP
  skip = let e = lt-ltb i 8 h in rw e
