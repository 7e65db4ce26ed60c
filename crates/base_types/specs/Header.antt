-- Header: the default, and the one that only names a slot to show.
use Rattle.std.specs.Prelude.{ℕ, true, false, replicate}
use Rattle.base_loop_filter.specs.LoopFilterParams.{default_filter}
use Rattle.base_quantization.specs.QuantizationParams.{default_quantization}
use Rattle.base_segmentation.specs.SegmentationParams.{default_segmentation}
use Rattle.base_enums.specs.declared.BitDepth.TheVariants.{Depth8}
use Rattle.base_enums.specs.declared.ColorRange.TheVariants.{StudioSwing}
use Rattle.base_enums.specs.declared.ColorSpace.TheVariants.{Unknown}
use Rattle.base_enums.specs.declared.FrameType.TheVariants.{KeyFrame}
use Rattle.base_enums.specs.declared.InterpolationFilter.TheVariants.{EightTap}
use Rattle.base_enums.specs.declared.Profile.{Profile}
use Rattle.base_enums.specs.declared.Profile.TheVariants.{Profile0}
use Rattle.base_types.specs.declared.header.Header.{Header}

-- depth 8 and the eight-tap filter, and else 0 or false
abbrev pub default_header : Header
default_header =
    record {
      profile = Profile0;
      bit_depth = Depth8;
      subsampling_x = false;
      subsampling_y = false;
      color_space = Unknown;
      color_range = StudioSwing;
      show_existing_frame = false;
      frame_to_show_map_idx = 0;
      frame_type = KeyFrame;
      show_frame = false;
      error_resilient_mode = false;
      width = 0;
      height = 0;
      render_and_frame_size_different = false;
      render_width = 0;
      render_height = 0;
      intra_only = false;
      reset_frame_context = 0;
      refresh_frame_flags = 0;
      ref_frame_idx = replicate 3 0;
      ref_frame_sign_bias = replicate 4 0;
      allow_high_precision_mv = false;
      interpolation_filter = EightTap;
      refresh_frame_context = false;
      frame_parallel_decoding_mode = false;
      frame_context_idx = 0;
      lf = default_filter;
      quant = default_quantization;
      seg = default_segmentation;
      tile_cols_log2 = 0;
      tile_rows_log2 = 0;
      lossless = false;
      header_size_in_bytes = 0;
      uncompressed_header_size_in_bytes = 0;
    }

abbrev pub showing_header : Profile → ℕ → Header
showing_header profile slot =
    record default_header { profile = profile; show_existing_frame = true; frame_to_show_map_idx = slot }
