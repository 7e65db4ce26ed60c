-- How long the records' text can be.
-- Assumes nothing.
use Prim.Native.Nat.{ℕ, ◌+◌, ◌*◌, ◌≤◌}
use mathlib.Core.Path.{refl}
use mathlib.Core.Bool.{Bool}
use mathlib.Core.List.{List, [], ◌∷◌}
use native.Mathlib.Omega.{arith}
use lib.ListN.{length, length-append}
use Rattle.base_enums.specs.declared.BitDepth.{BitDepth}
use Rattle.base_enums.specs.declared.ColorSpace.{ColorSpace}
use Rattle.base_enums.specs.declared.ColorRange.{ColorRange}
use Rattle.base_size.specs.declared.FrameSize.{FrameSize}
use Rattle.base_types.specs.declared.header.Header.{Header}
use Rattle.base_types.specs.declared.state.ReaderState.{ReaderState}
use Rattle.segment_records.specs.declared.Segmentation.{Segmentation}
use Rattle.text_numeral.proofs.Digits.{length_numeral}
use Rattle.text_form.specs.Form.{is_mark}
use Rattle.text_form.proofs.Fits.{marks_in, within}
use Rattle.text_settings.proofs.Fits.{filter_fits, quantization_fits, segmentation_fits}
use Rattle.text_records.specs.Header.{profile_text, color_text, picture_text, source_text, end_text, header_text}
use Rattle.text_records.specs.State.{slots_text, state_text}
use Rattle.text_records.specs.Segments.{segment_fields, segment_text, segments_from}

profile_fits : (h : Header) → length (profile_text h) ≤ 60
unfolding profile_text marks_in is_mark
profile_fits h = within _ _ 60 refl

color_fits : (depth : BitDepth) (x y : Bool) (space : ColorSpace) (range : ColorRange) → length (color_text depth x y space range) ≤ 300
unfolding color_text marks_in is_mark
color_fits depth x y space range = within _ _ 300 refl

picture_fits : (h : Header) → length (picture_text h) ≤ 500
unfolding picture_text marks_in is_mark
picture_fits h = within _ _ 500 refl

source_fits : (h : Header) → length (source_text h) ≤ 700
unfolding source_text marks_in is_mark
source_fits h = within _ _ 700 refl

end_fits : (h : Header) → length (end_text h) ≤ 300
unfolding end_text marks_in is_mark
end_fits h = within _ _ 300 refl

pub header_fits : (h : Header) → length (header_text h) ≤ 5060
unfolding header_text
header_fits h =
    simp length-append
    (omega (
      arith,
      profile_fits h,
      color_fits h.bit_depth h.subsampling_x h.subsampling_y h.color_space h.color_range,
      picture_fits h,
      source_fits h,
      filter_fits h.lf,
      quantization_fits h.quant,
      simp length-append at (segmentation_fits h.seg),
      end_fits h,
    ))

slots_fit : (sizes : List FrameSize) → length (slots_text sizes) ≤ 700
unfolding slots_text marks_in is_mark
slots_fit sizes = within _ _ 700 refl

pub state_fits : (st : ReaderState) → length (state_text st) ≤ 4100
unfolding state_text
state_fits st =
    simp length-append
    (omega (
      arith,
      color_fits st.bit_depth st.subsampling_x st.subsampling_y st.color_space st.color_range,
      filter_fits st.lf,
      simp length-append at (segmentation_fits st.seg),
      slots_fit st.reference_frame_sz,
    ))

fields_fit : (s : Segmentation) → length (segment_fields s) ≤ 600
unfolding segment_fields marks_in is_mark
fields_fit s = within _ _ 600 refl

segment_fits : (i : ℕ) (s : Segmentation) → length (segment_text i s) ≤ 700
unfolding segment_text
segment_fits i s = simp length-append (omega (arith, length_numeral i, fields_fit s))

pub segments_fit : (i : ℕ) (records : List Segmentation) → length (segments_from i records) ≤ 700 * length records
unfolding segments_from
segments_fit i [] = omega arith
segments_fit i (s ∷ others) = rw length-append (omega (arith, segment_fits i s, segments_fit (i + 1) others))
