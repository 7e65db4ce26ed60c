-- How long the lines of a listing can be.
-- Assumes nothing.
use Prim.Native.Nat.{ℕ, ◌+◌, ◌*◌, ◌≤◌}
use mathlib.Core.List.{List, [], ◌∷◌}
use native.Mathlib.Omega.{arith}
use lib.ListN.{length, length-append}
use Rattle.base_types.specs.declared.header.Header.{Header}
use Rattle.text_numeral.proofs.Digits.{length_numeral}
use Rattle.text_line.specs.Line.{Word, word, word_text, line_text}
use Rattle.text_listing.specs.Lines.{column_line, refused_line, file_refused_line, last_line}
use Rattle.text_frame_line.specs.declared.Kind.{Kind}
use Rattle.text_frame_line.specs.declared.Kind.TheVariants.{Key, Intra, Inter, Show}
use Rattle.text_frame_line.specs.Frame.{frame_kind, kind_word, frame_line}

-- no word of a line takes more than 20 bytes
abbrev Short : Word → Type 0
Short w = length (word_text w) ≤ 20

abbrev AllShort : List Word → Type 0
AllShort [] = Unit
AllShort (w ∷ ws) = Short w × AllShort ws

line_size : (ws : List Word) → AllShort ws → length (line_text ws) ≤ 21 * length ws + 1
unfolding line_text
line_size [] h = omega arith
line_size (w ∷ []) h = simp length-append (omega (arith, h.0))
line_size (w ∷ v ∷ ws) h = simp length-append (omega (arith, h.0, line_size (v ∷ ws) h.1))

kind_short : (k : Kind) → Short (word (kind_word k))
kind_short Key = omega arith
kind_short Intra = omega arith
kind_short Inter = omega arith
kind_short Show = omega arith

pub frame_size : (chunk frame at size : ℕ) (h : Header) → length (line_text (frame_line chunk frame at size h)) ≤ 256
frame_size chunk frame at size h =
    let n = length_numeral in
    omega (arith, line_size (frame_line chunk frame at size h) (n _, (n _, (kind_short (frame_kind h), (n _, (n _, (n _, (n _, (n _, (n _, tt))))))))))

pub refused_size : (chunk refusal frame : ℕ) → length (line_text (refused_line chunk refusal frame)) ≤ 256
refused_size chunk refusal frame =
    let n = length_numeral in
    omega (arith, line_size (refused_line chunk refusal frame) (n _, (omega arith, (n _, (omega arith, (n _, tt))))))

pub column_size : length (line_text column_line) ≤ 256
column_size =
    omega
    (arith, line_size column_line (omega arith, (omega arith, (omega arith, (omega arith, (omega arith, (omega arith, (omega arith, (omega arith, (omega arith, tt))))))))))

pub last_size : (chunks refused : ℕ) → length (line_text (last_line chunks refused)) ≤ 256
last_size chunks refused = let n = length_numeral in omega (arith, line_size (last_line chunks refused) (n _, (omega arith, (n _, (omega arith, tt)))))

pub file_size : (refusal : ℕ) → length (line_text (file_refused_line refusal)) ≤ 256
file_size refusal = omega (arith, line_size (file_refused_line refusal) (omega arith, (omega arith, (length_numeral _, tt))))
