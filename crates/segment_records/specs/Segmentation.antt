-- A segment's record: its levels, and its entries.
use Rattle.std.specs.Prelude.{ℕ, false, List, pos, replicate}
use Rattle.base_types.specs.declared.header.Header.{Header}
use Rattle.base_loop_filter.specs.declared.LoopFilterParams.{LoopFilterParams}
use Rattle.segment_grid.specs.Grid.{grid_of, row_of}
use Rattle.segment_levels.specs.Levels.{levels_of}
use Rattle.segment_records.specs.declared.entries.Entries.{Entries}
use Rattle.segment_features.specs.declared.Features.{Features}
use Rattle.segment_records.specs.declared.Segmentation.{Segmentation}
use Rattle.segment_features.specs.Features.{features_of}
use Rattle.segment_records.specs.Entries.{entries_of}

abbrev pub default_segment : Segmentation
default_segment =
    record {
      lvl_lookup = replicate 8 0;
      luma_ac_quant_scale = pos 0;
      luma_dc_quant_scale = pos 0;
      chroma_ac_quant_scale = pos 0;
      chroma_dc_quant_scale = pos 0;
      reference_frame_enabled = false;
      reference_frame = pos 0;
      reference_skip_enabled = false;
    }

unfoldable pub segment_with : List ℕ → Entries → Segmentation
segment_with levels e =
    record {
      lvl_lookup = levels;
      luma_ac_quant_scale = e.scales.luma_ac;
      luma_dc_quant_scale = e.scales.luma_dc;
      chroma_ac_quant_scale = e.scales.chroma_ac;
      chroma_dc_quant_scale = e.scales.chroma_dc;
      reference_frame_enabled = e.reference_frame_enabled;
      reference_frame = e.reference_frame;
      reference_skip_enabled = e.reference_skip_enabled;
    }

-- the levels of the segment with the features f
abbrev pub grid_after : LoopFilterParams → Features → List (List ℕ) → List (List ℕ)
grid_after lf f = levels_of lf f.level_active f.absolute f.level

-- a record's levels follow from its own before the frame, its entries from the settings alone
unfoldable pub segment_of : Header → ℕ → Segmentation → Segmentation
segment_of h i old = segment_with (row_of (grid_after h.lf f (grid_of old.lvl_lookup))) (entries_of h.bit_depth h.quant f)
  where
    f : Features
    f = features_of h.seg i
