-- How a row of Rows.antt is written: a header's settings, and the eight records that the Rust answers.
-- Assumes nothing.
use Rattle.std.specs.Prelude.{ℕ, Bool, true, false, List, [], ◌∷◌, ℤ, pos, neg_ℤ}
use Rattle.base_enums.specs.declared.BitDepth.{BitDepth}
use Rattle.base_loop_filter.specs.declared.LoopFilterParams.{LoopFilterParams}
use Rattle.base_loop_filter.specs.LoopFilterParams.{default_filter}
use Rattle.base_quantization.specs.declared.QuantizationParams.{QuantizationParams}
use Rattle.base_segmentation.specs.declared.SegmentationParams.{SegmentationParams}
use Rattle.base_segmentation.specs.SegmentationParams.{default_segmentation}
use Rattle.base_types.specs.declared.header.Header.{Header}
use Rattle.base_types.specs.Header.{default_header}
use Rattle.segment_records.specs.declared.Segmentation.{Segmentation}

abbrev pub minus : ℕ → ℤ
minus n = neg_ℤ (pos n)

pub data Feature : Type 0 where
  off : Feature
  on : ℤ → Feature

abbrev pub is_on : Feature → Bool
is_on off = false
is_on (on d) = true

abbrev pub value_of : Feature → ℤ
value_of off = pos 0
value_of (on d) = d

-- the features of a segment
pub record FourFeatures : Type 0 where
  pub quantizer : Feature
  pub level : Feature
  pub reference : Feature
  pub skip : Feature

unfoldable pub row_by : {A : Type 0} → (Feature → A) → List FourFeatures → List A
row_by f [] = []
row_by f (s ∷ others) = f s.quantizer ∷ f s.level ∷ f s.reference ∷ f s.skip ∷ row_by f others

abbrev pub features : Feature → Feature → Feature → Feature → FourFeatures
features q l r s = record { quantizer = q; level = l; reference = r; skip = s }

-- level, whether deltas are enabled, and the deltas of intra, last, golden and altref, and of the two modes
abbrev pub filter : ℕ → Bool → List ℤ → List ℤ → LoopFilterParams
filter level deltas refs modes =
    record {
      level = level;
      sharpness = 0;
      delta_enabled = deltas;
      delta_update = false;
      update_ref_delta = default_filter.update_ref_delta;
      ref_deltas = refs;
      update_mode_delta = default_filter.update_mode_delta;
      mode_deltas = modes;
    }

-- base_q_idx, delta_q_y_dc, delta_q_uv_dc and delta_q_uv_ac
abbrev pub quantizers : ℕ → ℤ → ℤ → ℤ → QuantizationParams
quantizers base ydc uvdc uvac =
    record { base_q_idx = base; delta_q_y_dc = ydc; delta_q_uv_dc = uvdc; delta_q_uv_ac = uvac }

-- whether segmentation is on, whether features are absolute, and the features of each segment
abbrev pub segments : Bool → Bool → List FourFeatures → SegmentationParams
segments enabled absolute fs =
    record {
      enabled = enabled;
      update_map = false;
      tree_probs = default_segmentation.tree_probs;
      pred_probs = default_segmentation.pred_probs;
      temporal_update = false;
      update_data = false;
      abs_or_delta_update = absolute;
      feature_enabled = row_by is_on fs;
      feature_data = row_by value_of fs;
    }

-- a default header but for these settings
abbrev pub header_with : BitDepth → LoopFilterParams → QuantizationParams → SegmentationParams → Header
header_with depth lf quant seg =
    record {
      profile = default_header.profile;
      bit_depth = depth;
      subsampling_x = default_header.subsampling_x;
      subsampling_y = default_header.subsampling_y;
      color_space = default_header.color_space;
      color_range = default_header.color_range;
      show_existing_frame = default_header.show_existing_frame;
      frame_to_show_map_idx = default_header.frame_to_show_map_idx;
      frame_type = default_header.frame_type;
      show_frame = default_header.show_frame;
      error_resilient_mode = default_header.error_resilient_mode;
      width = default_header.width;
      height = default_header.height;
      render_and_frame_size_different = default_header.render_and_frame_size_different;
      render_width = default_header.render_width;
      render_height = default_header.render_height;
      intra_only = default_header.intra_only;
      reset_frame_context = default_header.reset_frame_context;
      refresh_frame_flags = default_header.refresh_frame_flags;
      ref_frame_idx = default_header.ref_frame_idx;
      ref_frame_sign_bias = default_header.ref_frame_sign_bias;
      allow_high_precision_mv = default_header.allow_high_precision_mv;
      interpolation_filter = default_header.interpolation_filter;
      refresh_frame_context = default_header.refresh_frame_context;
      frame_parallel_decoding_mode = default_header.frame_parallel_decoding_mode;
      frame_context_idx = default_header.frame_context_idx;
      lf = lf;
      quant = quant;
      seg = seg;
      tile_cols_log2 = default_header.tile_cols_log2;
      tile_rows_log2 = default_header.tile_rows_log2;
      lossless = default_header.lossless;
      header_size_in_bytes = default_header.header_size_in_bytes;
      uncompressed_header_size_in_bytes = default_header.uncompressed_header_size_in_bytes;
    }

-- levels; the scales of luma ac, luma dc, chroma ac and chroma dc; reference enabled, reference, skip enabled
abbrev pub segment : List ℕ → ℤ → ℤ → ℤ → ℤ → Bool → ℤ → Bool → Segmentation
segment levels yac ydc uvac uvdc referenced reference skipped =
    record {
      lvl_lookup = levels;
      luma_ac_quant_scale = yac;
      luma_dc_quant_scale = ydc;
      chroma_ac_quant_scale = uvac;
      chroma_dc_quant_scale = uvdc;
      reference_frame_enabled = referenced;
      reference_frame = reference;
      reference_skip_enabled = skipped;
    }

pub record SegmentRow : Type 0 where
  pub header : Header
  pub after : List Segmentation
