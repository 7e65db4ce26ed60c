-- A header and a segment record, with the lines that the Rust prints of them: tests/listing/worked_text.py wrote it.
-- Assumes nothing.
use mathlib.Core.Path.{◌≡◌, refl}
use mathlib.Core.Bool.{true, false}
use mathlib.Core.List.{[], ◌∷◌, ◌++◌}
use lib.IntN.{pos, negsuc}
use Rattle.base_shared.specs.Lists.{values_of}
use Rattle.base_enums.specs.declared.BitDepth.TheVariants.{Depth8}
use Rattle.base_enums.specs.declared.ColorRange.TheVariants.{StudioSwing}
use Rattle.base_enums.specs.declared.ColorSpace.TheVariants.{Unknown}
use Rattle.base_enums.specs.declared.FrameType.TheVariants.{InterFrame}
use Rattle.base_enums.specs.declared.InterpolationFilter.TheVariants.{EightTap}
use Rattle.base_enums.specs.declared.Profile.TheVariants.{Profile0}
use Rattle.base_types.specs.declared.header.Header.{Header}
use Rattle.segment_records.specs.declared.Segmentation.{Segmentation}
use Rattle.text_numeral.specs.Ascii.{ascii}
use Rattle.text_numeral.specs.Numeral.{numeral, numeral_of}
use Rattle.text_signed.specs.Number.{lowered_text}
use Rattle.text_form.specs.Form as form
use Rattle.text_setting_rows.specs.Settings as rows
use Rattle.text_settings.specs.Settings as settings
use Rattle.text_record_rows.specs.Records as records
use Rattle.text_records.specs.Header.{profile_text, color_text, picture_text, source_text, end_text, header_text}
use Rattle.text_records.specs.Segments.{segment_fields, segment_text}

abbrev pub worked_header : Header
worked_header =
    record {
      profile = Profile0;
      bit_depth = Depth8;
      subsampling_x = true;
      subsampling_y = true;
      color_space = Unknown;
      color_range = StudioSwing;
      show_existing_frame = false;
      frame_to_show_map_idx = 0;
      frame_type = InterFrame;
      show_frame = true;
      error_resilient_mode = false;
      width = 176;
      height = 144;
      render_and_frame_size_different = false;
      render_width = 176;
      render_height = 144;
      intra_only = false;
      reset_frame_context = 0;
      refresh_frame_flags = 1;
      ref_frame_idx = 0 ∷ 1 ∷ 2 ∷ [];
      ref_frame_sign_bias = 0 ∷ 0 ∷ 0 ∷ 0 ∷ [];
      allow_high_precision_mv = true;
      interpolation_filter = EightTap;
      refresh_frame_context = true;
      frame_parallel_decoding_mode = true;
      frame_context_idx = 0;
      lf = record {
        level = 36;
        sharpness = 0;
        delta_enabled = true;
        delta_update = false;
        update_ref_delta = true ∷ false ∷ true ∷ true ∷ [];
        ref_deltas = (pos 1) ∷ (pos 0) ∷ (negsuc 0) ∷ (negsuc 0) ∷ [];
        update_mode_delta = false ∷ false ∷ [];
        mode_deltas = (pos 0) ∷ (pos 0) ∷ [];
      };
      quant = record {
        base_q_idx = 176;
        delta_q_y_dc = pos 0;
        delta_q_uv_dc = pos 0;
        delta_q_uv_ac = pos 0;
      };
      seg = record {
        enabled = true;
        update_map = true;
        tree_probs = 1 ∷ 128 ∷ 1 ∷ 128 ∷ 128 ∷ 128 ∷ 255 ∷ [];
        pred_probs = 1 ∷ 51 ∷ 11 ∷ [];
        temporal_update = true;
        update_data = true;
        abs_or_delta_update = false;
        feature_enabled = false ∷ false ∷ false ∷ false ∷ true ∷ true ∷ false ∷ false ∷ true ∷ true ∷ true ∷ true ∷ true ∷ true ∷ false ∷ false ∷ true ∷ true ∷ true ∷ false ∷ true ∷ true ∷ false ∷ false ∷ true ∷ true ∷ false ∷ false ∷ false ∷ false ∷ false ∷ true ∷ [];
        feature_data = (pos 0) ∷ (pos 0) ∷ (pos 0) ∷ (pos 0) ∷ (negsuc 39) ∷ (pos 5) ∷ (pos 0) ∷ (pos 0) ∷ (pos 80) ∷ (negsuc 11) ∷ (pos 1) ∷ (pos 0) ∷ (negsuc 119) ∷ (pos 31) ∷ (pos 0) ∷ (pos 0) ∷ (negsuc 95) ∷ (pos 31) ∷ (negsuc 1) ∷ (pos 0) ∷ (pos 56) ∷ (negsuc 13) ∷ (pos 0) ∷ (pos 0) ∷ (negsuc 15) ∷ (pos 1) ∷ (pos 0) ∷ (pos 0) ∷ (pos 0) ∷ (pos 0) ∷ (pos 0) ∷ (pos 0) ∷ [];
      };
      tile_cols_log2 = 0;
      tile_rows_log2 = 0;
      lossless = false;
      header_size_in_bytes = 36;
      uncompressed_header_size_in_bytes = 38;
    }

abbrev pub worked_segment : Segmentation
worked_segment =
    record {
      lvl_lookup = 26 ∷ 0 ∷ 24 ∷ 24 ∷ 22 ∷ 22 ∷ 22 ∷ 22 ∷ [];
      luma_ac_quant_scale = pos 1828;
      luma_dc_quant_scale = pos 1336;
      chroma_ac_quant_scale = pos 1828;
      chroma_dc_quant_scale = pos 1336;
      reference_frame_enabled = true;
      reference_frame = pos 1;
      reference_skip_enabled = true;
    }

pub header_line : header_text worked_header ≡
    ascii "  Header { profile: Profile0, bit_depth: Depth8, subsampling_x: true, subsampling_y: true, color_spa"
    ++ ascii "ce: Unknown, color_range: StudioSwing, show_existing_frame: false, frame_to_show_map_idx: 0, frame_t"
    ++ ascii "ype: InterFrame, show_frame: true, error_resilient_mode: false, width: 176, height: 144, render_and_"
    ++ ascii "frame_size_different: false, render_width: 176, render_height: 144, intra_only: false, reset_frame_c"
    ++ ascii "ontext: 0, refresh_frame_flags: 1, ref_frame_idx: [0, 1, 2], ref_frame_sign_bias: [0, 0, 0, 0], allo"
    ++ ascii "w_high_precision_mv: true, interpolation_filter: EightTap, refresh_frame_context: true, frame_parall"
    ++ ascii "el_decoding_mode: true, frame_context_idx: 0, lf: LoopFilterParams { level: 36, sharpness: 0, delta_"
    ++ ascii "enabled: true, delta_update: false, update_ref_delta: [true, false, true, true], ref_deltas: [1, 0, "
    ++ ascii "-1, -1], update_mode_delta: [false, false], mode_deltas: [0, 0] }, quant: QuantizationParams { base_"
    ++ ascii "q_idx: 176, delta_q_y_dc: 0, delta_q_uv_dc: 0, delta_q_uv_ac: 0 }, seg: SegmentationParams { enabled"
    ++ ascii ": true, update_map: true, tree_probs: [1, 128, 1, 128, 128, 128, 255], pred_probs: [1, 51, 11], temp"
    ++ ascii "oral_update: true, update_data: true, abs_or_delta_update: false, feature_enabled: [[false, false, f"
    ++ ascii "alse, false], [true, true, false, false], [true, true, true, true], [true, true, false, false], [tru"
    ++ ascii "e, true, true, false], [true, true, false, false], [true, true, false, false], [false, false, false,"
    ++ ascii " true]], feature_data: [[0, 0, 0, 0], [-40, 5, 0, 0], [80, -12, 1, 0], [-120, 31, 0, 0], [-96, 31, -"
    ++ ascii "2, 0], [56, -14, 0, 0], [-16, 1, 0, 0], [0, 0, 0, 0]] }, tile_cols_log2: 0, tile_rows_log2: 0, lossl"
    ++ ascii "ess: false, header_size_in_bytes: 36, uncompressed_header_size_in_bytes: 38 }"
    ++ ascii "\n"
unfolding
    header_text profile_text color_text picture_text source_text end_text settings.filter_text settings.quantization_text
    settings.switches_text settings.features_text settings.data_text records.color_row records.picture_row records.source_row
    records.end_row rows.filter_row rows.quantization_row rows.segmentation_row rows.flag_row rows.data_row values_of
    form.formed form.formed_from form.mark_piece form.word_piece form.words_after form.is_mark lowered_text numeral numeral_of
header_line = refl

pub segment_line : segment_text 2 worked_segment ≡
    ascii "  seg 2 Segmentation { lvl_lookup: [[26, 0], [24, 24], [22, 22], [22, 22]], luma_ac_quant_scale: 182"
    ++ ascii "8, luma_dc_quant_scale: 1336, chroma_ac_quant_scale: 1828, chroma_dc_quant_scale: 1336, reference_fr"
    ++ ascii "ame_enabled: true, reference_frame: 1, reference_skip_enabled: true }"
    ++ ascii "\n"
unfolding
    segment_text segment_fields records.segment_row form.formed form.formed_from form.mark_piece form.word_piece
    form.words_after form.is_mark lowered_text numeral numeral_of
segment_line = refl
