-- The features of each of the eight segments are what VP9 says.
use mathlib.Core.Path.{◌≡◌}
use Prim.Native.Nat.{ℕ, ◌<◌}
use borrow.Author.Tests.{lt-ltb}
use Rattle.base_segmentation.specs.declared.SegmentationParams.{SegmentationParams}
use Rattle.segment_features.specs.Features.{features_of}
use Rattle.segment_features.specs.Vp9.{features_said}

pub features_are : (s : SegmentationParams) (i : ℕ) → i < 8 → features_of s i ≡ features_said s i
unfolding features_of features_said
features_are s i h = rw (lt-ltb i 8 h)
