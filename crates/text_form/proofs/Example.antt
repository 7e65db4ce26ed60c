-- A form with every mark, computed.
-- Assumes nothing.
use mathlib.Core.Path.{◌≡◌, refl}
use mathlib.Core.List.{[], ◌∷◌}
use Rattle.text_numeral.specs.Ascii.{ascii}
use Rattle.text_numeral.specs.Numeral.{numeral, numeral_of}
use Rattle.text_signed.specs.Number.{lowered_text}
use Rattle.text_form.specs.Form.{mark_piece, word_piece, words_after, is_mark, formed_from, formed}

pub marks : formed (ascii "n: #, [%, %], ? <a|bc|d>/<a|bc|d>/<a|bc|d> ?.") (60 ∷ 65539 ∷ 65535 ∷ 1 ∷ 0 ∷ 1 ∷ 2 ∷ 0 ∷ []) ≡ ascii "n: 60, [3, -1], true a/bc/d false."
unfolding formed formed_from mark_piece word_piece words_after is_mark numeral numeral_of lowered_text
marks = refl
