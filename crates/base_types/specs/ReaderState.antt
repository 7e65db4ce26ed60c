-- ReaderState: the fresh state, with depth 8, and else 0 or false, and sizes 0x0.
use Rattle.std.specs.Prelude.{false, replicate}
use Rattle.base_size.specs.FrameSize.{no_size}
use Rattle.base_loop_filter.specs.LoopFilterParams.{default_filter}
use Rattle.base_segmentation.specs.SegmentationParams.{default_segmentation}
use Rattle.base_enums.specs.declared.BitDepth.TheVariants.{Depth8}
use Rattle.base_enums.specs.declared.ColorRange.TheVariants.{StudioSwing}
use Rattle.base_enums.specs.declared.ColorSpace.TheVariants.{Unknown}
use Rattle.base_types.specs.declared.state.ReaderState.{ReaderState}

abbrev pub fresh_state : ReaderState
fresh_state =
    record {
      bit_depth = Depth8;
      subsampling_x = false;
      subsampling_y = false;
      color_space = Unknown;
      color_range = StudioSwing;
      lf = default_filter;
      seg = default_segmentation;
      reference_frame_sz = replicate 8 no_size;
    }
