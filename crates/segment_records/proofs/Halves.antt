-- A record's halves: the levels, which follow from those before, and the entries, which follow from the settings alone.
use mathlib.Core.Path.{◌≡◌, refl}
use Prim.Native.Nat.{ℕ}
use Rattle.base_enums.specs.declared.BitDepth.{BitDepth}
use Rattle.base_types.specs.declared.header.Header.{Header}
use Rattle.base_quantization.specs.declared.QuantizationParams.{QuantizationParams}
use Rattle.base_segmentation.specs.declared.SegmentationParams.{SegmentationParams}
use Rattle.segment_grid.specs.Grid.{grid_of, row_of}
use Rattle.segment_quant.specs.Quant.{qindex, dc_quant, ac_quant, scales_at, scales_of}
use Rattle.segment_records.specs.declared.entries.Entries.{Entries}
use Rattle.segment_records.specs.declared.Segmentation.{Segmentation}
use Rattle.segment_records.specs.Entries.{index, entries_with, entries_of}
use Rattle.segment_features.specs.Features.{features_of}
use Rattle.segment_records.specs.Segmentation.{segment_with, grid_after, segment_of}

-- the scales are those of the dequantization functions
pub scales_are : (depth : BitDepth) (q : QuantizationParams) (s : SegmentationParams) (i : ℕ)
    → (entries_of depth q (features_of s i)).scales ≡ scales_of depth q s i
unfolding entries_of entries_with index features_of qindex scales_at scales_of dc_quant ac_quant
scales_are depth q s i = refl

-- the entries that a record holds
abbrev pub entries_in : Segmentation → Entries
entries_in r =
    record {
      scales =
          record {
            luma_ac = r.luma_ac_quant_scale;
            luma_dc = r.luma_dc_quant_scale;
            chroma_ac = r.chroma_ac_quant_scale;
            chroma_dc = r.chroma_dc_quant_scale;
          };
      reference_frame_enabled = r.reference_frame_enabled;
      reference_frame = r.reference_frame;
      reference_skip_enabled = r.reference_skip_enabled;
    }

module _ (h : Header) (i : ℕ) (old : Segmentation) where
  -- no record before the frame has a part in the entries
  pub entries_by_header : entries_in (segment_of h i old) ≡ entries_of h.bit_depth h.quant (features_of h.seg i)
  unfolding segment_of segment_with
  entries_by_header = refl

  pub levels_by_levels : (segment_of h i old).lvl_lookup ≡ row_of (grid_after h.lf (features_of h.seg i) (grid_of old.lvl_lookup))
  unfolding segment_of segment_with
  levels_by_levels = refl
