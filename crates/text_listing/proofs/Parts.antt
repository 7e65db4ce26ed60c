-- The lines of a listing, as their parts are put.
-- Assumes nothing.
use Prim.Native.Nat.{ℕ}
use mathlib.Core.Path.{◌≡◌, refl}
use mathlib.Core.List.{◌++◌}
use Rattle.text_numeral.specs.Ascii.{ascii}
use Rattle.text_numeral.specs.Numeral.{numeral}
use Rattle.text_line.specs.Line.{line_text}
use Rattle.text_listing.specs.Lines.{column_line, refused_line, file_refused_line, last_line}

pub column_parts : ascii "chunk frame kind at size width height refresh hdr\n" ≡ line_text column_line
unfolding line_text
column_parts = refl

pub refused_parts : (chunk number frame : ℕ)
    → numeral chunk ++ (ascii " refused " ++ (numeral number ++ (ascii " frame " ++ (numeral frame ++ ascii "\n")))) ≡ line_text (refused_line chunk number frame)
unfolding line_text
refused_parts chunk number frame = refl

pub file_parts : (number : ℕ) → ascii "file refused " ++ (numeral number ++ ascii "\n") ≡ line_text (file_refused_line number)
unfolding line_text
file_parts number = refl

pub last_parts : (chunks refused : ℕ) → numeral chunks ++ (ascii " chunks " ++ (numeral refused ++ ascii " refused\n")) ≡ line_text (last_line chunks refused)
unfolding line_text
last_parts chunks refused = refl
