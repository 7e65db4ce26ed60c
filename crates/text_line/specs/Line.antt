-- Lines of text: docs/RULES.md, "IVF, picture choice, listing".
-- Assumes nothing.
use Rattle.std.specs.Prelude.{ℕ, List, [], ◌∷◌, ◌++◌}
use Prim.Native.String.{String}
use Rattle.text_numeral.specs.Ascii.{ascii}
use Rattle.text_numeral.specs.Numeral.{numeral}

-- what stands in a line: numbers and words
pub data Word : Type 0 where
  number : ℕ → Word
  word : String → Word

abbrev pub word_text : Word → List ℕ
word_text (number n) = numeral n
word_text (word w) = ascii w

-- a space between them, and the line's end
unfoldable pub line_text : List Word → List ℕ
line_text [] = ascii "\n"
line_text (w ∷ []) = word_text w ++ ascii "\n"
line_text (w ∷ v ∷ ws) = word_text w ++ (ascii " " ++ line_text (v ∷ ws))

-- line after line
unfoldable pub text_of : List (List Word) → List ℕ
text_of [] = []
text_of (l ∷ ls) = line_text l ++ text_of ls
