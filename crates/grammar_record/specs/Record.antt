-- What is answered of a header's field values under the remembered state: the record, and the state after.
-- Assumes nothing.
use Rattle.std.specs.Prelude.{ℕ, ◌+◌, ◌/◌, Bool, true, false, ◌&&◌, ◌||◌, List, [], ◌∷◌, eqb, length, replicate}
use Rattle.base_shared.specs.Choice.{pick}
use Rattle.base_syntax.specs.Syntax.{flag, flat}
use Rattle.base_enums.specs.Profile.{profile_of}
use Rattle.base_enums.specs.ColorSpace.{color_space_of}
use Rattle.base_enums.specs.declared.BitDepth.TheVariants.{Depth8}
use Rattle.base_enums.specs.declared.ColorRange.TheVariants.{StudioSwing}
use Rattle.base_enums.specs.declared.ColorSpace.TheVariants.{Bt601}
use Rattle.base_enums.specs.declared.FrameType.TheVariants.{KeyFrame, InterFrame}
use Rattle.base_enums.specs.declared.InterpolationFilter.TheVariants.{EightTap}
use Rattle.base_types.specs.Header.{showing_header}
use Rattle.base_types.specs.declared.header.Header.{Header}
use Rattle.base_types.specs.declared.state.ReaderState.{ReaderState}
use Rattle.base_slots.specs.Slots.{refreshed}
use Rattle.grammar_tables.specs.Tables.{RefValues, RefsValues, superblocks, least}
use Rattle.grammar_tables.specs.Header.{FrameValues, is_key, is_intra, is_colored, size_of, frame_size, HeaderValues, header_profile, shows_existing, header_fields}
use Rattle.grammar_settings.specs.Settings.{loop_filter_of, quantizer_of, lossless, segmentation_of}
use Rattle.grammar_settings.specs.Enums.{depth_of, range_of, subsampling, interpolation_of}

-- of the colour: what is coded; what an intra_only frame of profile 0 has; what an inter frame keeps
abbrev pub colored : {A : Type 0} → ℕ → FrameValues → A → A → A → A
colored profile v coded fixed kept = pick (is_colored profile v) coded (pick (is_intra v) fixed kept)

-- what f makes of each of the three references
abbrev pub each_ref : (RefValues → ℕ) → RefsValues → List ℕ
each_ref f r = f r.last ∷ f r.golden ∷ f r.altref ∷ []

abbrev pub is_independent : FrameValues → Bool
is_independent v = is_intra v || flag v.error_resilient_mode

-- bits in whole bytes
abbrev pub length_of : ℕ → ℕ
length_of n = (n + 7) / 8

-- a frame's record, from its profile and the length of its header in bytes: a value that isn't there is 0, as in the
-- default header, whose filter is the eight-tap one.
-- Kept from the source, an independent frame has no sign bias
unfoldable pub frame_of : ReaderState → ℕ → FrameValues → ℕ → Header
frame_of st profile v bytes =
    let c = v.color in
    let slots = st.reference_frame_sz in
    let frame = frame_size slots v in
    let different = flag v.render.render_and_frame_size_different in
    let render = pick different (size_of v.render.size) frame in
    let quant = quantizer_of v.quantizer in
    record {
      profile = profile_of profile;
      bit_depth = colored profile v (depth_of profile c.ten_or_twelve_bit) Depth8 st.bit_depth;
      subsampling_x = colored profile v (subsampling profile c.color_space c.subsampling_x) true st.subsampling_x;
      subsampling_y = colored profile v (subsampling profile c.color_space c.subsampling_y) true st.subsampling_y;
      color_space = colored profile v (color_space_of c.color_space) Bt601 st.color_space;
      color_range = colored profile v (range_of c.color_space c.color_range) StudioSwing st.color_range;
      show_existing_frame = false;
      frame_to_show_map_idx = 0;
      frame_type = pick (is_key v) KeyFrame InterFrame;
      show_frame = flag v.show_frame;
      error_resilient_mode = flag v.error_resilient_mode;
      width = frame.width;
      height = frame.height;
      render_and_frame_size_different = different;
      render_width = render.width;
      render_height = render.height;
      intra_only = flag v.intra_only;
      reset_frame_context = v.reset_frame_context;
      refresh_frame_flags = pick (is_key v) 255 v.refresh_frame_flags;
      ref_frame_idx = each_ref (λ r. r.ref_frame_idx) v.refs;
      ref_frame_sign_bias = pick (is_independent v) (replicate 4 0) (0 ∷ each_ref (λ r. r.ref_frame_sign_bias) v.refs);
      allow_high_precision_mv = flag v.allow_high_precision_mv;
      interpolation_filter = pick (is_intra v) EightTap (interpolation_of v.is_filter_switchable v.raw_interpolation_filter);
      refresh_frame_context = flag v.refresh_frame_context;
      frame_parallel_decoding_mode = pick (flag v.error_resilient_mode) true (flag v.frame_parallel_decoding_mode);
      frame_context_idx = v.frame_context_idx;
      lf = loop_filter_of (is_independent v) st.lf v.loop_filter;
      quant = quant;
      seg = segmentation_of (is_independent v) st.seg v.segmentation;
      tile_cols_log2 = least (superblocks frame.width) + v.tiles.increment_tile_cols_log2;
      tile_rows_log2 = v.tiles.tile_rows_log2 + v.tiles.increment_tile_rows_log2;
      lossless = lossless quant;
      header_size_in_bytes = v.header_size_in_bytes;
      uncompressed_header_size_in_bytes = bytes;
    }

-- show-existing has the profile and the slot, and else the default header; a frame's length is its spelling's, in
-- whole bytes
unfoldable pub header_of : ReaderState → HeaderValues → Header
header_of st v =
    let profile = header_profile v in
    pick (shows_existing v) (showing_header (profile_of profile) v.frame_to_show_map_idx)
    (frame_of st profile v.frame (length_of (length (flat (header_fields st.reference_frame_sz v)))))

-- the state holds what the frame's record h has, but that an intra_only frame of profile 0 leaves the range as it was
unfoldable pub state_from : ReaderState → ℕ → FrameValues → Header → ReaderState
state_from st profile v h =
    record {
      bit_depth = h.bit_depth;
      subsampling_x = h.subsampling_x;
      subsampling_y = h.subsampling_y;
      color_space = h.color_space;
      color_range = pick (eqb profile 0 && flag v.intra_only) st.color_range h.color_range;
      lf = h.lf;
      seg = h.seg;
      reference_frame_sz = refreshed h.refresh_frame_flags (record { width = h.width; height = h.height }) st.reference_frame_sz;
    }

-- show-existing changes nothing
unfoldable pub state_after : ReaderState → HeaderValues → ReaderState
state_after st v = pick (shows_existing v) st (state_from st (header_profile v) v.frame (header_of st v))
