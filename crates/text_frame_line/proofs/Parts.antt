-- The line of a frame as the code puts it.
-- Assumes nothing.
use Prim.Native.Nat.{ℕ}
use mathlib.Core.Path.{◌≡◌}
use mathlib.Core.List.{◌++◌, append_assoc}
use Rattle.base_types.specs.declared.header.Header.{Header}
use Rattle.text_numeral.specs.Ascii.{ascii}
use Rattle.text_numeral.specs.Numeral.{numeral}
use Rattle.text_line.specs.Line.{line_text}
use Rattle.text_frame_line.specs.Frame.{kind_word, frame_kind, frame_line}

module _ (chunk frame at size : ℕ) (h : Header) where
  pub frame_parts :
      ((numeral chunk ++ ascii " ") ++ ((numeral frame ++ ascii " ") ++ (ascii (kind_word (frame_kind h)) ++ ascii " ")))
      ++ (((numeral at ++ ascii " ") ++ ((numeral size ++ ascii " ") ++ ((numeral h.width ++ ascii " ") ++ (numeral h.height ++ ascii " "))))
      ++ ((numeral h.refresh_frame_flags ++ ascii " ") ++ (numeral h.uncompressed_header_size_in_bytes ++ ascii "\n")))
      ≡ line_text (frame_line chunk frame at size h)
  unfolding line_text
  frame_parts = simp append_assoc
