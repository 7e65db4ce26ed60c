-- A header, a state's slots and a segment record as rows.
-- Assumes nothing.
use Rattle.std.specs.Prelude.{ℕ, Bool, List, [], ◌∷◌, get_or}
use Rattle.base_enums.specs.declared.BitDepth.{BitDepth}
use Rattle.base_enums.specs.declared.ColorSpace.{ColorSpace}
use Rattle.base_enums.specs.declared.ColorRange.{ColorRange}
use Rattle.base_enums.specs.BitDepth.{depth_number}
use Rattle.base_enums.specs.ColorSpace.{color_space_number}
use Rattle.base_enums.specs.ColorRange.{color_range_number}
use Rattle.base_enums.specs.FrameType.{frame_type_number}
use Rattle.base_enums.specs.InterpolationFilter.{filter_number}
use Rattle.base_size.specs.declared.FrameSize.{FrameSize}
use Rattle.base_size.specs.FrameSize.{no_size}
use Rattle.base_types.specs.declared.header.Header.{Header}
use Rattle.segment_records.specs.declared.Segmentation.{Segmentation}
use Rattle.text_signed.specs.Number.{bit, lifted}
use Rattle.text_signed.specs.Number.{byte_in}

unfoldable pub color_row : BitDepth → Bool → Bool → ColorSpace → ColorRange → List ℕ
color_row depth x y space range =
    depth_number depth ∷ bit x ∷ bit y ∷ color_space_number space ∷ color_range_number range ∷ []

unfoldable pub picture_row : Header → List ℕ
picture_row h =
    bit h.show_existing_frame
    ∷ h.frame_to_show_map_idx
    ∷ frame_type_number h.frame_type
    ∷ bit h.show_frame
    ∷ bit h.error_resilient_mode
    ∷ h.width
    ∷ h.height
    ∷ bit h.render_and_frame_size_different
    ∷ h.render_width
    ∷ h.render_height
    ∷ []

unfoldable pub source_row : Header → List ℕ
source_row h =
    bit h.intra_only
    ∷ h.reset_frame_context
    ∷ h.refresh_frame_flags
    ∷ byte_in h.ref_frame_idx 0
    ∷ byte_in h.ref_frame_idx 1
    ∷ byte_in h.ref_frame_idx 2
    ∷ byte_in h.ref_frame_sign_bias 0
    ∷ byte_in h.ref_frame_sign_bias 1
    ∷ byte_in h.ref_frame_sign_bias 2
    ∷ byte_in h.ref_frame_sign_bias 3
    ∷ bit h.allow_high_precision_mv
    ∷ filter_number h.interpolation_filter
    ∷ bit h.refresh_frame_context
    ∷ bit h.frame_parallel_decoding_mode
    ∷ h.frame_context_idx
    ∷ []

unfoldable pub end_row : Header → List ℕ
end_row h =
    h.tile_cols_log2
    ∷ h.tile_rows_log2
    ∷ bit h.lossless
    ∷ h.header_size_in_bytes
    ∷ h.uncompressed_header_size_in_bytes
    ∷ []

abbrev pub size_at : List FrameSize → ℕ → FrameSize
size_at s i = get_or s i no_size

unfoldable pub slot_row : List FrameSize → List ℕ
slot_row s =
    (size_at s 0).width
    ∷ (size_at s 0).height
    ∷ (size_at s 1).width
    ∷ (size_at s 1).height
    ∷ (size_at s 2).width
    ∷ (size_at s 2).height
    ∷ (size_at s 3).width
    ∷ (size_at s 3).height
    ∷ (size_at s 4).width
    ∷ (size_at s 4).height
    ∷ (size_at s 5).width
    ∷ (size_at s 5).height
    ∷ (size_at s 6).width
    ∷ (size_at s 6).height
    ∷ (size_at s 7).width
    ∷ (size_at s 7).height
    ∷ []

unfoldable pub segment_row : Segmentation → List ℕ
segment_row s =
    byte_in s.lvl_lookup 0
    ∷ byte_in s.lvl_lookup 1
    ∷ byte_in s.lvl_lookup 2
    ∷ byte_in s.lvl_lookup 3
    ∷ byte_in s.lvl_lookup 4
    ∷ byte_in s.lvl_lookup 5
    ∷ byte_in s.lvl_lookup 6
    ∷ byte_in s.lvl_lookup 7
    ∷ lifted s.luma_ac_quant_scale
    ∷ lifted s.luma_dc_quant_scale
    ∷ lifted s.chroma_ac_quant_scale
    ∷ lifted s.chroma_dc_quant_scale
    ∷ bit s.reference_frame_enabled
    ∷ lifted s.reference_frame
    ∷ bit s.reference_skip_enabled
    ∷ []
