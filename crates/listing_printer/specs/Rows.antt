-- The text of the long form of an example, as a statement about the definitions.
-- Assumes nothing.
use Rattle.std.specs.Prelude.{ℕ, ◌≡◌, List, [], ◌∷◌, ◌++◌}
use Prim.Native.String.{String}
use Rattle.text_numeral.specs.Ascii.{ascii}
use Rattle.listing_printer.specs.Text.{long_text}

-- docs/LONG-FORM.md's example: docs/RULES.md's K, in a file of its own
abbrev pub key_file : List ℕ
key_file =
    0x44 ∷ 0x4B ∷ 0x49 ∷ 0x46 ∷ 0x00 ∷ 0x00 ∷ 0x20 ∷ 0x00 ∷ 0x56 ∷ 0x50 ∷ 0x39 ∷ 0x30 ∷ 0x40 ∷ 0x00 ∷ 0x40 ∷ 0x00 ∷
    0x1E ∷ 0x00 ∷ 0x00 ∷ 0x00 ∷ 0x01 ∷ 0x00 ∷ 0x00 ∷ 0x00 ∷ 0x01 ∷ 0x00 ∷ 0x00 ∷ 0x00 ∷ 0x00 ∷ 0x00 ∷ 0x00 ∷ 0x00 ∷
    0x0E ∷ 0x00 ∷ 0x00 ∷ 0x00 ∷ 0x00 ∷ 0x00 ∷ 0x00 ∷ 0x00 ∷ 0x00 ∷ 0x00 ∷ 0x00 ∷ 0x00 ∷ 0x82 ∷ 0x49 ∷ 0x83 ∷ 0x42 ∷
    0x20 ∷ 0x03 ∷ 0xF0 ∷ 0x03 ∷ 0xF4 ∷ 0x00 ∷ 0x07 ∷ 0x80 ∷ 0x00 ∷ 0x05 ∷ []

-- each segment's line is like the other
abbrev segment_line : String → List ℕ
segment_line i =
    ascii "  seg "
    ++ ascii i
    ++ ascii " Segmentation { lvl_lookup: [[0, 0], [0, 0], [0, 0], [0, 0]], luma_ac_quant_scale: 67, luma_dc_quant"
    ++ ascii "_scale: 57, chroma_ac_quant_scale: 67, chroma_dc_quant_scale: 57, reference_frame_enabled: false, re"
    ++ ascii "ference_frame: 0, reference_skip_enabled: false }"
    ++ ascii "\n"

abbrev pub key_text : List ℕ
key_text =
    ascii "chunk frame kind at size width height refresh hdr\n"
    ++ ascii "0 0 key 0 14 64 64 255 14\n"
    ++ ascii "  Header { profile: Profile0, bit_depth: Depth8, subsampling_x: true, subsampling_y: true, color_spa"
    ++ ascii "ce: Bt601, color_range: StudioSwing, show_existing_frame: false, frame_to_show_map_idx: 0, frame_typ"
    ++ ascii "e: KeyFrame, show_frame: true, error_resilient_mode: false, width: 64, height: 64, render_and_frame_"
    ++ ascii "size_different: false, render_width: 64, render_height: 64, intra_only: false, reset_frame_context: "
    ++ ascii "0, refresh_frame_flags: 255, ref_frame_idx: [0, 0, 0], ref_frame_sign_bias: [0, 0, 0, 0], allow_high"
    ++ ascii "_precision_mv: false, interpolation_filter: EightTap, refresh_frame_context: true, frame_parallel_de"
    ++ ascii "coding_mode: false, frame_context_idx: 0, lf: LoopFilterParams { level: 0, sharpness: 0, delta_enabl"
    ++ ascii "ed: false, delta_update: false, update_ref_delta: [false, false, false, false], ref_deltas: [1, 0, -"
    ++ ascii "1, -1], update_mode_delta: [false, false], mode_deltas: [0, 0] }, quant: QuantizationParams { base_q"
    ++ ascii "_idx: 60, delta_q_y_dc: 0, delta_q_uv_dc: 0, delta_q_uv_ac: 0 }, seg: SegmentationParams { enabled: "
    ++ ascii "false, update_map: false, tree_probs: [0, 0, 0, 0, 0, 0, 0], pred_probs: [0, 0, 0], temporal_update:"
    ++ ascii " false, update_data: false, abs_or_delta_update: false, feature_enabled: [[false, false, false, fals"
    ++ ascii "e], [false, false, false, false], [false, false, false, false], [false, false, false, false], [false"
    ++ ascii ", false, false, false], [false, false, false, false], [false, false, false, false], [false, false, f"
    ++ ascii "alse, false]], feature_data: [[0, 0, 0, 0], [0, 0, 0, 0], [0, 0, 0, 0], [0, 0, 0, 0], [0, 0, 0, 0], "
    ++ ascii "[0, 0, 0, 0], [0, 0, 0, 0], [0, 0, 0, 0]] }, tile_cols_log2: 0, tile_rows_log2: 0, lossless: false, "
    ++ ascii "header_size_in_bytes: 5, uncompressed_header_size_in_bytes: 14 }"
    ++ ascii "\n"
    ++ segment_line "0"
    ++ segment_line "1"
    ++ segment_line "2"
    ++ segment_line "3"
    ++ segment_line "4"
    ++ segment_line "5"
    ++ segment_line "6"
    ++ segment_line "7"
    ++ ascii "1 chunks 0 refused\n"

abbrev pub KeyWritten : Type 0
KeyWritten = long_text key_file ≡ key_text
