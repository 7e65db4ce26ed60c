-- The features' part of segmentation_params() (VP9 6.2.11).
-- Assumes nothing.
use Rattle.std.specs.Prelude.{ℕ, Bool, true, false, ◌≡◌, List, ℤ, Result}
use Rattle.base_bits.specs.declared.Cursor.{Cursor}
use Rattle.base_bits.specs.declared.Refusal.{Refusal}
use Rattle.base_shared.specs.Choice.{pick}
use Rattle.base_syntax.specs.Syntax.{flag}
use Rattle.base_syntax.specs.Reader.{over, ◌>>=◌, field, field_if, group_if, Reader, give}
use Rattle.base_segmentation.specs.declared.SegmentationParams.{SegmentationParams}
use Rattle.part_segment_data.specs.Features.{feature_rows}
use Rattle.grammar_tables.specs.Tables.{FeatureValues}
use Rattle.grammar_tables.specs.Reading.{no_features, read_features}
use Rattle.base_bits.specs.Refusal.{the}
use Rattle.base_syntax.specs.Many.{Times}

pub record DataValues : Type 0 where
  pub update_data : ℕ
  pub abs_or_delta_update : ℕ
  pub features : Times 8 (Times 4 FeatureValues)

abbrev pub no_data : DataValues
no_data = record { update_data = 0; abs_or_delta_update = 0; features = no_features }

unfoldable pub read_data : Reader DataValues
read_data = do
  d ← field (the "segmentation_update_data") 1
  a ← field_if (flag d) (the "segmentation_abs_or_delta_update") 1
  f ← group_if (flag d) no_features read_features
  give (record { update_data = d; abs_or_delta_update = a; features = f })

-- the code's answer: the settings with another features' part
abbrev pub with_data : SegmentationParams → Bool → Bool → List Bool → List ℤ → SegmentationParams
with_data old update absolute enabled values =
    record {
      enabled = old.enabled;
      update_map = old.update_map;
      tree_probs = old.tree_probs;
      pred_probs = old.pred_probs;
      temporal_update = old.temporal_update;
      update_data = update;
      abs_or_delta_update = absolute;
      feature_enabled = enabled;
      feature_data = values;
    }

-- an update sets every feature; without one they keep their values
unfoldable pub data_of : SegmentationParams → DataValues → SegmentationParams
data_of old v =
    pick (flag v.update_data)
    (with_data old true (flag v.abs_or_delta_update) (feature_rows v.features).enabled (feature_rows v.features).values)
    (with_data old false old.abs_or_delta_update old.feature_enabled old.feature_data)

-- what `parse_data` answers, from the remembered settings
abbrev pub DataIs : List ℕ → ℕ → SegmentationParams → Result (SegmentationParams × Cursor) Refusal → Type 0
DataIs s p old r = r ≡ over (data_of old) (read_data s p)
