-- uncompressed_header() (VP9 6.2): the field values of a header, their spelling under the remembered sizes, and what
-- it is for a frame to begin with it.
-- Nothing here knows of a reader.
-- Assumes nothing.
use Rattle.std.specs.Prelude.{ℕ, ◌+◌, ◌*◌, Bool, not, ◌&&◌, ◌||◌, List, [], ◌∷◌, eqb, ltb, get_or}
use Rattle.base_bits.specs.Bit.{Begins}
use Rattle.base_bits.specs.Refusal.{the, frame_marker, sync_code}
use Rattle.base_shared.specs.Choice.{pick}
use Rattle.base_syntax.specs.Syntax.{Field, fld, fixed, flag, fld_if, optional, flat, Ranged, ◌then◌}
use Rattle.base_size.specs.FrameSize.{no_size}
use Rattle.base_size.specs.declared.FrameSize.{FrameSize}
use Rattle.grammar_tables.specs.Tables.{ColorValues, color_fields, SizeValues, size_fields, RenderValues, render_fields, RefsValues, refs_fields, FoundValues, found_fields, found_at, LoopFilterValues, loop_filter_fields, QuantizerValues, quantizer_fields, SegmentationValues, segmentation_fields, TilesValues, tiles_fields}

-- what comes after show_existing_frame
pub record FrameValues : Type 0 where
  pub frame_type : ℕ
  pub show_frame : ℕ
  pub error_resilient_mode : ℕ
  pub intra_only : ℕ
  pub reset_frame_context : ℕ
  pub frame_sync_code : ℕ
  pub color : ColorValues
  pub refresh_frame_flags : ℕ
  pub refs : RefsValues
  pub found_ref : FoundValues
  pub size : SizeValues
  pub render : RenderValues
  pub allow_high_precision_mv : ℕ
  pub is_filter_switchable : ℕ
  pub raw_interpolation_filter : ℕ
  pub refresh_frame_context : ℕ
  pub frame_parallel_decoding_mode : ℕ
  pub frame_context_idx : ℕ
  pub loop_filter : LoopFilterValues
  pub quantizer : QuantizerValues
  pub segmentation : SegmentationValues
  pub tiles : TilesValues
  pub header_size_in_bytes : ℕ

pub record HeaderValues : Type 0 where
  pub frame_marker : ℕ
  pub profile_low_bit : ℕ
  pub profile_high_bit : ℕ
  pub reserved_zero : ℕ
  pub show_existing_frame : ℕ
  pub frame_to_show_map_idx : ℕ
  pub frame : FrameValues

-- a key frame has type 0; it and an intra_only frame are intra frames, and any other is an inter frame
abbrev pub is_key : FrameValues → Bool
is_key v = eqb v.frame_type 0

abbrev pub is_intra : FrameValues → Bool
is_intra v = is_key v || flag v.intra_only

-- an intra_only frame of profile 0 doesn't code its colour
abbrev pub is_colored : ℕ → FrameValues → Bool
is_colored profile v = is_key v || (flag v.intra_only && ltb 0 profile)

-- the size that is coded; an inter frame that codes none has that of the first reference with found_ref, from its slot
unfoldable pub size_of : SizeValues → FrameSize
size_of v = record { width = v.width_minus_1 + 1; height = v.height_minus_1 + 1 }

abbrev pub size_from : List FrameSize → RefsValues → FoundValues → SizeValues → FrameSize
size_from slots r f v =
    pick (eqb (found_at f) 3) (size_of v)
    (get_or slots (get_or (r.last.ref_frame_idx ∷ r.golden.ref_frame_idx ∷ r.altref.ref_frame_idx ∷ []) (found_at f) 0) no_size)

abbrev pub frame_size : List FrameSize → FrameValues → FrameSize
frame_size slots v = size_from slots v.refs v.found_ref v.size

-- the branches of the table for key, intra_only and inter frames, one after the other: what they share stands once
unfoldable pub frame_fields : List FrameSize → ℕ → FrameValues → List Field
frame_fields slots profile v =
    fld (the "frame_type") 1 v.frame_type
    ∷ fld (the "show_frame") 1 v.show_frame
    ∷ fld (the "error_resilient_mode") 1 v.error_resilient_mode
    ∷ fld_if (not (is_key v) && not (flag v.show_frame)) (the "intra_only") 1 v.intra_only
    ∷ fld_if (not (is_key v) && not (flag v.error_resilient_mode)) (the "reset_frame_context") 2 v.reset_frame_context
    ∷ optional (is_intra v) (fixed (the "frame_sync_code") 24 0x498342 sync_code v.frame_sync_code ∷ [])
    then optional (is_colored profile v) (color_fields profile v.color)
    then fld_if (not (is_key v)) (the "refresh_frame_flags") 8 v.refresh_frame_flags
    ∷ optional (not (is_intra v)) (refs_fields v.refs)
    then optional (not (is_intra v)) (found_fields v.found_ref)
    then optional (eqb (found_at v.found_ref) 3) (size_fields (the "frame_width_minus_1") (the "frame_height_minus_1") v.size)
    then render_fields v.render
    then fld_if (not (is_intra v)) (the "allow_high_precision_mv") 1 v.allow_high_precision_mv
    ∷ fld_if (not (is_intra v)) (the "is_filter_switchable") 1 v.is_filter_switchable
    ∷ fld_if (not (is_intra v) && not (flag v.is_filter_switchable)) (the "raw_interpolation_filter") 2 v.raw_interpolation_filter
    ∷ fld_if (not (flag v.error_resilient_mode)) (the "refresh_frame_context") 1 v.refresh_frame_context
    ∷ fld_if (not (flag v.error_resilient_mode)) (the "frame_parallel_decoding_mode") 1 v.frame_parallel_decoding_mode
    ∷ fld (the "frame_context_idx") 2 v.frame_context_idx
    ∷ loop_filter_fields v.loop_filter
    then quantizer_fields v.quantizer
    then segmentation_fields v.segmentation
    then tiles_fields (frame_size slots v).width v.tiles
    then fld (the "header_size_in_bytes") 16 v.header_size_in_bytes ∷ []

abbrev pub header_profile : HeaderValues → ℕ
header_profile v = v.profile_high_bit * 2 + v.profile_low_bit

-- show_existing_frame names a slot, and nothing follows
abbrev pub shows_existing : HeaderValues → Bool
shows_existing v = flag v.show_existing_frame

unfoldable pub header_fields : List FrameSize → HeaderValues → List Field
header_fields slots v =
    fixed (the "frame_marker") 2 2 frame_marker v.frame_marker
    ∷ fld (the "profile_low_bit") 1 v.profile_low_bit
    ∷ fld (the "profile_high_bit") 1 v.profile_high_bit
    ∷ fld_if (eqb (header_profile v) 3) (the "reserved_zero") 1 v.reserved_zero
    ∷ fld (the "show_existing_frame") 1 v.show_existing_frame
    ∷ fld_if (shows_existing v) (the "frame_to_show_map_idx") 3 v.frame_to_show_map_idx
    ∷ optional (not (shows_existing v)) (frame_fields slots (header_profile v) v.frame)

-- under the remembered sizes, the frame's bits begin with the spelling of the values v, each in range: one that isn't
-- there has no bits, and is 0
pub record Spelled (slots : List FrameSize) (s : List ℕ) (v : HeaderValues) : Type 0 where
  pub ranged : Ranged (header_fields slots v)
  pub begins : Begins s (flat (header_fields slots v))
