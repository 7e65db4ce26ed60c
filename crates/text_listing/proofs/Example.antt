-- The other lines of docs/RULES.md's example of a listing, computed, the line of refusal 7,
-- and a refusal whose numbers all differ.
-- Assumes nothing.
use mathlib.Core.Path.{◌≡◌, refl}
use Rattle.text_numeral.specs.Ascii.{ascii}
use Rattle.text_numeral.specs.Numeral.{numeral, numeral_of}
use Rattle.text_line.specs.Line.{line_text}
use Rattle.text_listing.specs.Lines.{column_line, refused_line, file_refused_line, last_line}

pub names : line_text column_line ≡ ascii "chunk frame kind at size width height refresh hdr\n"
unfolding line_text
names = refl

pub empty_chunk : line_text (refused_line 1 1 0) ≡ ascii "1 refused 1 frame 0\n"
unfolding line_text numeral numeral_of
empty_chunk = refl

pub second_frame : line_text (refused_line 7 6 1) ≡ ascii "7 refused 6 frame 1\n"
unfolding line_text numeral numeral_of
second_frame = refl

pub counts : line_text (last_line 2 1) ≡ ascii "2 chunks 1 refused\n"
unfolding line_text numeral numeral_of
counts = refl

pub no_ivf : line_text (file_refused_line 7) ≡ ascii "file refused 7\n"
unfolding line_text numeral numeral_of
no_ivf = refl
