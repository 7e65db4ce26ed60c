-- A state as text, for the tests: docs/LONG-FORM.md.
-- Assumes nothing.
use Rattle.std.specs.Prelude.{ℕ, List, ◌++◌}
use Rattle.base_size.specs.declared.FrameSize.{FrameSize}
use Rattle.base_types.specs.declared.state.ReaderState.{ReaderState}
use Rattle.text_numeral.specs.Ascii.{ascii}
use Rattle.text_form.specs.Form.{formed}
use Rattle.text_settings.specs.Settings.{filter_text, segmentation_text}
use Rattle.text_record_rows.specs.Records.{slot_row}
use Rattle.text_records.specs.Header.{color_text}

abbrev pub state_opening : ReaderState → List ℕ
state_opening st =
    ascii "  state ReaderState { "
    ++ color_text st.bit_depth st.subsampling_x st.subsampling_y st.color_space st.color_range

unfoldable pub slots_text : List FrameSize → List ℕ
slots_text sizes =
    formed
    (ascii ", reference_frame_sz: [FrameSize { width: #, height: # }, FrameSize { width: #, height: # }, "
    ++ ascii "FrameSize { width: #, height: # }, FrameSize { width: #, height: # }, FrameSize { width: #, height: # }, "
    ++ ascii "FrameSize { width: #, height: # }, FrameSize { width: #, height: # }, FrameSize { width: #, height: # }] }\n")
    (slot_row sizes)

unfoldable pub state_text : ReaderState → List ℕ
state_text st = state_opening st ++ (filter_text st.lf ++ (segmentation_text st.seg ++ slots_text st.reference_frame_sz))
