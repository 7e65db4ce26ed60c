-- The map's part of segmentation_params() (VP9 6.2.11).
-- Assumes nothing.
use Rattle.std.specs.Prelude.{ℕ, Bool, true, false, ◌≡◌, List, Result}
use Rattle.base_bits.specs.declared.Cursor.{Cursor}
use Rattle.base_bits.specs.declared.Refusal.{Refusal}
use Rattle.base_shared.specs.Choice.{pick}
use Rattle.base_syntax.specs.Syntax.{flag}
use Rattle.base_syntax.specs.Reader.{over, ◌>>=◌, field, field_if, group_if, Reader, give}
use Rattle.grammar_settings.specs.Settings.{prob_of}
use Rattle.base_segmentation.specs.declared.SegmentationParams.{SegmentationParams}
use Rattle.base_syntax.specs.Many.{each_of, Times}
use Rattle.grammar_tables.specs.Tables.{ProbValues}
use Rattle.grammar_tables.specs.Reading.{no_probs, read_probs}
use Rattle.base_bits.specs.Refusal.{the}

pub record MapValues : Type 0 where
  pub update_map : ℕ
  pub tree_probs : Times 7 ProbValues
  pub temporal_update : ℕ
  pub pred_probs : Times 3 ProbValues

abbrev pub no_map : MapValues
no_map = record { update_map = 0; tree_probs = no_probs 7; temporal_update = 0; pred_probs = no_probs 3 }

unfoldable pub read_map : Reader MapValues
read_map = do
  m ← field (the "segmentation_update_map") 1
  t ← group_if (flag m) (no_probs 7) (read_probs "tree_prob_coded" "segmentation_tree_probs" 7)
  u ← field_if (flag m) (the "segmentation_temporal_update") 1
  p ← group_if (flag u) (no_probs 3) (read_probs "pred_prob_coded" "segmentation_pred_prob" 3)
  give (record { update_map = m; tree_probs = t; temporal_update = u; pred_probs = p })

-- the code's answer: the settings with another map part
abbrev pub with_map : SegmentationParams → Bool → List ℕ → List ℕ → Bool → SegmentationParams
with_map old update tree pred temporal =
    record {
      enabled = old.enabled;
      update_map = update;
      tree_probs = tree;
      pred_probs = pred;
      temporal_update = temporal;
      update_data = old.update_data;
      abs_or_delta_update = old.abs_or_delta_update;
      feature_enabled = old.feature_enabled;
      feature_data = old.feature_data;
    }

-- an update sets every probability, to 255 where it isn't coded; without one they keep their values
unfoldable pub map_of : SegmentationParams → MapValues → SegmentationParams
map_of old v =
    pick (flag v.update_map)
    (with_map old true (each_of prob_of 7 v.tree_probs) (each_of prob_of 3 v.pred_probs) (flag v.temporal_update))
    (with_map old false old.tree_probs old.pred_probs old.temporal_update)

-- what `parse_map` answers, from the remembered settings
abbrev pub MapIs : List ℕ → ℕ → SegmentationParams → Result (SegmentationParams × Cursor) Refusal → Type 0
MapIs s p old r = r ≡ over (map_of old) (read_map s p)
