-- SegmentationParams: the default, all 0 and false, the reset of the features, and what a segment's feature is.
use Rattle.std.specs.Prelude.{ℕ, ◌+◌, ◌*◌, List, Bool, false, ◌&&◌, ltb, ℤ, pos, get_or, replicate}
use Rattle.base_shared.specs.Choice.{pick}
use Rattle.base_enums.specs.SegLvl.{seg_lvl_number}
use Rattle.base_enums.specs.declared.SegLvl.{SegLvl}
use Rattle.base_segmentation.specs.declared.SegmentationParams.{SegmentationParams}

abbrev pub default_segmentation : SegmentationParams
default_segmentation =
    record {
      enabled = false;
      update_map = false;
      tree_probs = replicate 7 0;
      pred_probs = replicate 3 0;
      temporal_update = false;
      update_data = false;
      abs_or_delta_update = false;
      feature_enabled = replicate 32 false;
      feature_data = replicate 32 (pos 0);
    }

-- the code's answer of `reset`: features disabled, their data 0, absolute flag false; the rest is kept
abbrev pub reset_segmentation : SegmentationParams → SegmentationParams
reset_segmentation p =
    record p { abs_or_delta_update = false; feature_enabled = replicate 32 false; feature_data = replicate 32 (pos 0) }

-- segments: a segment's feature in a row of eight segments by four features; d where there is no such segment
abbrev pub feature_in : {A : Type 0} → List A → A → ℕ → SegLvl → A
feature_in row d segment feature = pick (ltb segment 8) (get_or row (segment * 4 + seg_lvl_number feature) d) d

abbrev pub feature_enabled : SegmentationParams → ℕ → SegLvl → Bool
feature_enabled p = feature_in p.feature_enabled false

-- enabled, and segmentation on
abbrev pub feature_active : SegmentationParams → ℕ → SegLvl → Bool
feature_active p segment feature = p.enabled && feature_enabled p segment feature

abbrev pub feature_data : SegmentationParams → ℕ → SegLvl → ℤ
feature_data p = feature_in p.feature_data (pos 0)
