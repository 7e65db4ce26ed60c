-- The header record of a frame's parts and its length, as the code puts it together.
-- Assumes nothing.
use Rattle.std.specs.Prelude.{ℕ, min, Bool, false, ◌||◌, List, [], ◌∷◌, replicate}
use Rattle.base_shared.specs.Choice.{pick}
use Rattle.base_enums.specs.Profile.{profile_of}
use Rattle.base_enums.specs.declared.FrameType.{FrameType}
use Rattle.base_enums.specs.declared.FrameType.TheVariants.{KeyFrame, InterFrame}
use Rattle.base_types.specs.declared.header.Header.{Header}
use Rattle.grammar_settings.specs.Settings.{lossless}
use Rattle.header_lead.specs.declared.Lead.{Lead}
use Rattle.header_tail.specs.declared.Settings.{Settings}
use Rattle.header_tail.specs.declared.Closing.{Closing}
use Rattle.grammar_record.specs.Record.{length_of}

-- the code's answer: the type of a frame that is a key frame or not
abbrev pub frame_type_of : Bool → FrameType
frame_type_of key = pick key KeyFrame InterFrame

-- an intra or error-resilient frame
abbrev pub independent : Lead → Bool
independent l = l.traits.key || (l.shot.kind.intra_only || l.traits.error_resilient_mode)

-- sign biases: INTRA has none; kept from the source, an independent frame clears them all
abbrev pub sign_biases : Lead → List ℕ
sign_biases l =
    pick (independent l) (replicate 4 0)
    (0 ∷ l.shot.picture.sources.refs.last.sign_bias ∷ l.shot.picture.sources.refs.golden.sign_bias ∷ l.shot.picture.sources.refs.altref.sign_bias ∷ [])

-- a length, as far as 16 bits hold it
abbrev pub cut_length : ℕ → ℕ
cut_length n = min (length_of n) 65535

-- the record, from the parts and a length
unfoldable pub frame_record : ℕ → Lead → Settings → Closing → ℕ → Header
frame_record profile l g c bytes =
    record {
      profile = profile_of profile;
      bit_depth = l.shot.picture.color.bit_depth;
      subsampling_x = l.shot.picture.color.subsampling_x;
      subsampling_y = l.shot.picture.color.subsampling_y;
      color_space = l.shot.picture.color.color_space;
      color_range = l.shot.picture.color.color_range;
      show_existing_frame = false;
      frame_to_show_map_idx = 0;
      frame_type = frame_type_of l.traits.key;
      show_frame = l.traits.show_frame;
      error_resilient_mode = l.traits.error_resilient_mode;
      width = l.shot.picture.sizes.frame.width;
      height = l.shot.picture.sizes.frame.height;
      render_and_frame_size_different = l.shot.picture.sizes.render.different;
      render_width = l.shot.picture.sizes.render.size.width;
      render_height = l.shot.picture.sizes.render.size.height;
      intra_only = l.shot.kind.intra_only;
      reset_frame_context = l.shot.kind.reset_frame_context;
      refresh_frame_flags = l.shot.picture.sources.refresh_frame_flags;
      ref_frame_idx = l.shot.picture.sources.refs.last.idx ∷ l.shot.picture.sources.refs.golden.idx ∷ l.shot.picture.sources.refs.altref.idx ∷ [];
      ref_frame_sign_bias = sign_biases l;
      allow_high_precision_mv = l.shot.picture.motion.allow_high_precision_mv;
      interpolation_filter = l.shot.picture.motion.interpolation_filter;
      refresh_frame_context = l.context.refresh_frame_context;
      frame_parallel_decoding_mode = l.context.frame_parallel_decoding_mode;
      frame_context_idx = l.context.frame_context_idx;
      lf = g.lf;
      quant = g.quant;
      seg = g.seg;
      tile_cols_log2 = c.tiles.cols_log2;
      tile_rows_log2 = c.tiles.rows_log2;
      lossless = lossless g.quant;
      header_size_in_bytes = c.header_size_in_bytes;
      uncompressed_header_size_in_bytes = bytes;
    }
