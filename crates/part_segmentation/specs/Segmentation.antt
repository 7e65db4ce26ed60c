-- segmentation_params() (VP9 6.2.11).
-- Assumes nothing.
use Rattle.std.specs.Prelude.{ℕ, Bool, false, ◌≡◌, List, Result}
use Rattle.base_bits.specs.declared.Cursor.{Cursor}
use Rattle.base_bits.specs.declared.Refusal.{Refusal}
use Rattle.base_syntax.specs.Reader.{over}
use Rattle.base_segmentation.specs.declared.SegmentationParams.{SegmentationParams}
use Rattle.grammar_settings.specs.Settings.{segmentation_of}
use Rattle.grammar_tables.specs.Reading.{read_segmentation}

-- the code's answer: with segmentation on or off, the two updates become false first
abbrev pub switched : SegmentationParams → Bool → SegmentationParams
switched old on =
    record {
      enabled = on;
      update_map = false;
      tree_probs = old.tree_probs;
      pred_probs = old.pred_probs;
      temporal_update = old.temporal_update;
      update_data = false;
      abs_or_delta_update = old.abs_or_delta_update;
      feature_enabled = old.feature_enabled;
      feature_data = old.feature_data;
    }

-- what `parse_segmentation_params` answers, from the remembered settings
abbrev pub SegmentationIs : List ℕ → ℕ → SegmentationParams → Result (SegmentationParams × Cursor) Refusal → Type 0
SegmentationIs s p old r = r ≡ over (segmentation_of false old) (read_segmentation s p)
