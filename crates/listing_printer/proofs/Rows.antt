-- The example's text, by computation.
-- Assumes nothing.
use mathlib.Core.Path.{refl}
use Rattle.base_bits.specs.Bit as Bit
use Rattle.base_syntax.specs.Many as Many
use Rattle.base_syntax.specs.Reader as Reader
use Rattle.base_shared.specs.Lists as Lists
use Rattle.grammar_tables.specs.Tables as Tables
use Rattle.grammar_tables.specs.Header as Header
use Rattle.grammar_settings.specs.Settings as Settings
use Rattle.grammar_record.specs.Record as Record
use Rattle.grammar_tables.specs.Reading as Reading
use Rattle.header_parser.specs.Answer as Answer
use Rattle.base_little.specs.Little as Little
use Rattle.chunk_index.specs.Layout as Layout
use Rattle.chunk_index.specs.Split as Split
use Rattle.chunk_judged.specs.Frames as Frames
use Rattle.chunk_judged.specs.Answer as Chunk
use Rattle.ivf_file.specs.File as File
use Rattle.ivf_file.specs.Record as FileRecord
use Rattle.ivf_file.specs.Records as Records
use Rattle.ivf_walk.specs.Said as Said
use Rattle.segment_tables.specs.Lists as QLists
use Rattle.segment_tables.specs.Tables as QTables
use Rattle.segment_clamp.specs.Clamp as Clamp
use Rattle.segment_grid.specs.Grid as Grid
use Rattle.segment_levels.specs.Levels as Levels
use Rattle.segment_features.specs.Features as Features
use Rattle.segment_quant.specs.Quant as Quant
use Rattle.segment_records.specs.Entries as Entries
use Rattle.segment_records.specs.Segmentation as Segment
use Rattle.text_numeral.specs.Numeral as Numeral
use Rattle.text_line.specs.Line as Line
use Rattle.text_signed.specs.Number as Number
use Rattle.text_form.specs.Form as Form
use Rattle.text_setting_rows.specs.Settings as SettingRows
use Rattle.text_settings.specs.Settings as SettingText
use Rattle.text_record_rows.specs.Records as RecordRows
use Rattle.text_records.specs.Header as HeaderText
use Rattle.text_records.specs.Segments as SegmentText
use Rattle.listing_items.specs.Items.{frame_items, records_past, items_of, long_form}
use Rattle.listing_printer.specs.Text.{items_text, long_text}
use Rattle.listing_printer.specs.Rows.{KeyWritten}

pub key_written : KeyWritten
unfolding
    Bit.spell Bit.bits_of Bit.bit_at Bit.reach Bit.Stands Bit.number Bit.fits Bit.missing Many.many_fields Reader.field
    Reader.must Reader.group_if Reader.field_if Tables.color_fields Tables.size_fields Tables.render_fields Tables.ref_fields Tables.refs_fields Tables.found_fields Tables.found_at Tables.delta_fields Tables.loop_filter_fields Tables.quantizer_fields Tables.prob_fields Tables.probs_fields Tables.feature_fields Tables.features_fields Tables.segmentation_fields Tables.run_fields Lists.first Tables.least Tables.most Tables.tiles_fields Header.size_of Header.frame_fields Header.header_fields Settings.delta_value Settings.loop_filter_of Settings.quantizer_of Settings.lossless Settings.segmentation_of Record.frame_of Record.header_of Record.state_from Record.state_after Reading.read_color Reading.read_size Reading.read_render Reading.read_ref Reading.read_refs Reading.read_found Reading.read_delta Reading.read_loop_filter Reading.read_quantizer Reading.read_ref_deltas Reading.read_mode_deltas Reading.read_prob Reading.read_probs Reading.read_feature Reading.read_features Reading.read_segmentation Settings.prob_of Tables.feature_bits Tables.feature_signed Many.many Reading.read_run Reading.read_tiles Reading.read_sync Reading.read_frame Reading.read_header Lists.each Lists.values_of Answer.parsed
    Little.little Layout.announced Layout.cut Layout.indexed Layout.layout_of Layout.start
    Split.filled Split.first_past Split.placed Split.split_of Frames.state_before Frames.frame_read
    Frames.first_fault Chunk.judged_chunk File.stands_at File.is_ivf FileRecord.record_at FileRecord.cut_short FileRecord.record_of Records.records_from Said.file_said
    Clamp.clamp_to Grid.grid_of Grid.row_of Levels.levels_of Levels.levels_at Levels.delta_grid Levels.pair_of
    Levels.segment_level Levels.level_moved Levels.scaled Features.features_of
    QLists.dc_qlookup8 QLists.ac_qlookup8 QTables.dc_row QTables.ac_row QTables.dc_table QTables.ac_table Quant.qindex_of Quant.scale_at Quant.scales_at Entries.index Entries.entries_with Entries.entries_of Segment.segment_with Segment.segment_of
    Numeral.numeral Numeral.numeral_of Line.line_text Number.lowered_text Form.mark_piece Form.word_piece Form.words_after Form.is_mark Form.formed_from Form.formed
    SettingRows.filter_row SettingRows.quantization_row SettingRows.segmentation_row SettingRows.flag_row SettingRows.data_row
    SettingText.filter_text SettingText.quantization_text SettingText.switches_text SettingText.features_text SettingText.data_text
    RecordRows.color_row RecordRows.picture_row RecordRows.source_row RecordRows.end_row RecordRows.segment_row
    HeaderText.profile_text HeaderText.color_text HeaderText.picture_text HeaderText.source_text HeaderText.end_text HeaderText.header_text
    SegmentText.segment_fields SegmentText.segment_text SegmentText.segments_from
    frame_items records_past items_of long_form items_text long_text
key_written = refl
