-- The segment records as text: docs/LONG-FORM.md.
-- Assumes nothing.
use Rattle.std.specs.Prelude.{ℕ, ◌+◌, List, [], ◌∷◌, ◌++◌}
use Rattle.segment_records.specs.declared.Segmentation.{Segmentation}
use Rattle.text_numeral.specs.Ascii.{ascii}
use Rattle.text_numeral.specs.Numeral.{numeral}
use Rattle.text_form.specs.Form.{formed}
use Rattle.text_record_rows.specs.Records.{segment_row}

unfoldable pub segment_fields : Segmentation → List ℕ
segment_fields s =
    formed
    (ascii " Segmentation { lvl_lookup: [[#, #], [#, #], [#, #], [#, #]], luma_ac_quant_scale: %, luma_dc_quant_scale: %, "
    ++ ascii "chroma_ac_quant_scale: %, chroma_dc_quant_scale: %, reference_frame_enabled: ?, reference_frame: %, "
    ++ ascii "reference_skip_enabled: ? }\n")
    (segment_row s)

unfoldable pub segment_text : ℕ → Segmentation → List ℕ
segment_text i s = ascii "  seg " ++ (numeral i ++ segment_fields s)

-- a line for each, from number i on
unfoldable pub segments_from : ℕ → List Segmentation → List ℕ
segments_from i [] = []
segments_from i (s ∷ others) = segment_text i s ++ segments_from (i + 1) others

abbrev pub segments_text : List Segmentation → List ℕ
segments_text = segments_from 0
