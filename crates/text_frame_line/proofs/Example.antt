-- The lines of frames, computed: of each kind, with numbers that all differ.
-- Assumes nothing.
use mathlib.Core.Path.{◌≡◌}
use mathlib.Core.Bool.{true, false}
use Rattle.base_enums.specs.declared.FrameType.TheVariants.{KeyFrame, InterFrame}
use Rattle.base_types.specs.declared.header.Header.{Header}
use Rattle.text_numeral.specs.Ascii.{ascii}
use Rattle.text_numeral.specs.Numeral.{numeral, numeral_of}
use Rattle.text_line.specs.Line.{line_text}
use Rattle.text_frame_line.specs.Frame.{frame_line}

module _ (h : Header) (w : h.width ≡ 32) (g : h.height ≡ 16) (f : h.refresh_frame_flags ≡ 2) (u : h.uncompressed_header_size_in_bytes ≡ 14) where
  pub key_frame : h.show_existing_frame ≡ false → h.frame_type ≡ KeyFrame → line_text (frame_line 7 1 5 19 h) ≡ ascii "7 1 key 5 19 32 16 2 14\n"
  unfolding line_text numeral numeral_of
  key_frame s k = rw (s, k, w, g, f, u)

  pub intra_frame : h.show_existing_frame ≡ false → h.frame_type ≡ InterFrame → h.intra_only ≡ true → line_text (frame_line 7 1 5 19 h) ≡ ascii "7 1 intra 5 19 32 16 2 14\n"
  unfolding line_text numeral numeral_of
  intra_frame s k i = rw (s, k, i, w, g, f, u)

  pub inter_frame : h.show_existing_frame ≡ false → h.frame_type ≡ InterFrame → h.intra_only ≡ false → line_text (frame_line 7 1 5 19 h) ≡ ascii "7 1 inter 5 19 32 16 2 14\n"
  unfolding line_text numeral numeral_of
  inter_frame s k i = rw (s, k, i, w, g, f, u)

module _ (h : Header) (w : h.width ≡ 0) (g : h.height ≡ 0) (f : h.refresh_frame_flags ≡ 0) (u : h.uncompressed_header_size_in_bytes ≡ 0) where
  pub shown_frame : h.show_existing_frame ≡ true → line_text (frame_line 0 1 14 1 h) ≡ ascii "0 1 show 14 1 0 0 0 0\n"
  unfolding line_text numeral numeral_of
  shown_frame s = rw (s, w, g, f, u)
