-- A header as text: docs/LONG-FORM.md.
-- Assumes nothing.
use Rattle.std.specs.Prelude.{ℕ, Bool, List, [], ◌∷◌, ◌++◌}
use Rattle.base_enums.specs.declared.BitDepth.{BitDepth}
use Rattle.base_enums.specs.declared.ColorSpace.{ColorSpace}
use Rattle.base_enums.specs.declared.ColorRange.{ColorRange}
use Rattle.base_enums.specs.Profile.{profile_number}
use Rattle.base_types.specs.declared.header.Header.{Header}
use Rattle.text_numeral.specs.Ascii.{ascii}
use Rattle.text_form.specs.Form.{formed}
use Rattle.text_settings.specs.Settings.{filter_text, quantization_text, segmentation_text}
use Rattle.text_record_rows.specs.Records.{color_row, picture_row, source_row, end_row}

unfoldable pub profile_text : Header → List ℕ
profile_text h = formed (ascii "  Header { profile: Profile#, ") (profile_number h.profile ∷ [])

-- of a header or a state
unfoldable pub color_text : BitDepth → Bool → Bool → ColorSpace → ColorRange → List ℕ
color_text depth x y space range =
    formed
    (ascii "bit_depth: Depth#, subsampling_x: ?, subsampling_y: ?, "
    ++ ascii "color_space: <Unknown|Bt601|Bt709|Smpte170|Smpte240|Bt2020|Reserved2|CsSrgb>, color_range: <StudioSwing|FullSwing>")
    (color_row depth x y space range)

abbrev pub opening_text : Header → List ℕ
opening_text h = profile_text h ++ color_text h.bit_depth h.subsampling_x h.subsampling_y h.color_space h.color_range

unfoldable pub picture_text : Header → List ℕ
picture_text h =
    formed
    (ascii ", show_existing_frame: ?, frame_to_show_map_idx: #, frame_type: <KeyFrame|InterFrame>, show_frame: ?, "
    ++ ascii "error_resilient_mode: ?, width: #, height: #, render_and_frame_size_different: ?, render_width: #, render_height: #")
    (picture_row h)

unfoldable pub source_text : Header → List ℕ
source_text h =
    formed
    (ascii ", intra_only: ?, reset_frame_context: #, refresh_frame_flags: #, ref_frame_idx: [#, #, #], "
    ++ ascii "ref_frame_sign_bias: [#, #, #, #], allow_high_precision_mv: ?, "
    ++ ascii "interpolation_filter: <EightTap|EightTapSmooth|EightTapSharp|Bilinear|Switchable>, refresh_frame_context: ?, "
    ++ ascii "frame_parallel_decoding_mode: ?, frame_context_idx: #")
    (source_row h)

abbrev pub front_text : Header → List ℕ
front_text h = opening_text h ++ (picture_text h ++ source_text h)

abbrev pub settings_text : Header → List ℕ
settings_text h = filter_text h.lf ++ (quantization_text h.quant ++ segmentation_text h.seg)

unfoldable pub end_text : Header → List ℕ
end_text h =
    formed
    (ascii ", tile_cols_log2: #, tile_rows_log2: #, lossless: ?, header_size_in_bytes: #, "
    ++ ascii "uncompressed_header_size_in_bytes: # }\n")
    (end_row h)

unfoldable pub header_text : Header → List ℕ
header_text h = front_text h ++ (settings_text h ++ end_text h)
