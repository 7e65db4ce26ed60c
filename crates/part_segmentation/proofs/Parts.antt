-- segmentation_params() is read as its parts are that the code reads: the map's and the features'.
-- Assumes nothing.
use Prim.Native.Nat.{ℕ}
use mathlib.Core.Path.{◌≡◌}
use mathlib.Core.List.{List}
use Rattle.base_bits.specs.Refusal.{the}
use Rattle.base_syntax.specs.Syntax.{flag}
use Rattle.base_syntax.specs.Reader.{Read, read, bind, field, field_if, group_if}
use Rattle.base_syntax.proofs.Binds.{bind_assoc, bind_same, split}
use Rattle.grammar_tables.specs.Tables.{SegmentationValues}
use Rattle.grammar_tables.specs.Reading.{read_segmentation}
use Rattle.part_segment_map.specs.Map.{MapValues, no_map, read_map}
use Rattle.part_segment_data.specs.Data.{DataValues, no_data, read_data}

abbrev pub flat_segmentation : ℕ → MapValues → DataValues → SegmentationValues
flat_segmentation e m d =
    record {
      enabled = e;
      update_map = m.update_map;
      tree_probs = m.tree_probs;
      temporal_update = m.temporal_update;
      pred_probs = m.pred_probs;
      update_data = d.update_data;
      abs_or_delta_update = d.abs_or_delta_update;
      features = d.features;
    }

abbrev in_parts : List ℕ → ℕ → Read SegmentationValues
in_parts s p =
    bind (field (the "segmentation_enabled") 1 s p) λ e p.
    bind (group_if (flag e) no_map read_map s p) λ m p.
    bind (group_if (flag e) no_data read_data s p) λ d p.
    read (flat_segmentation e m d) p

pub in_parts_lem : (s : List ℕ) (p : ℕ) → read_segmentation s p ≡ in_parts s p
unfolding read_segmentation read_map read_data group_if field_if
in_parts_lem s p =
    bind_same (field (the "segmentation_enabled") 1 s p) _ _ λ e p.
    split (flag e) (λ on. rw on (simp bind_assoc)) (λ off. rw off)
