-- Text by a form, in which marks stand for values: # a number, % one that is lifted (text_signed), ? a flag, <a|b|c> one
-- of some words, by its number. In ASCII # is 35, % 37, ? 63, < 60, | 124 and > 62.
-- Assumes nothing.
use Rattle.std.specs.Prelude.{ℕ, zero, suc, ◌+◌, Bool, false, ◌||◌, List, [], ◌∷◌, ◌++◌, eqb, get_or}
use Rattle.base_shared.specs.Choice.{pick}
use Rattle.text_numeral.specs.Ascii.{ascii}
use Rattle.text_numeral.specs.Numeral.{numeral}
use Rattle.text_signed.specs.Number.{lowered_text}
use Rattle.text_form.specs.declared.Mode.{Mode}
use Rattle.text_form.specs.declared.Mode.TheVariants.{Text, Words, Rest}

abbrev pub flag_text : ℕ → List ℕ
flag_text n = pick (eqb n 1) (ascii "true") (ascii "false")

-- in the form's text: of a byte c, where the next value is n
unfoldable pub mark_piece : ℕ → ℕ → List ℕ
mark_piece c n = pick (eqb c 35) (numeral n) (pick (eqb c 37) (lowered_text n) (pick (eqb c 63) (flag_text n) (pick (eqb c 60) [] (c ∷ []))))

-- among words: only those of the word that is meant
unfoldable pub word_piece : ℕ → ℕ → List ℕ
word_piece zero c = pick (eqb c 124 || eqb c 62) [] (c ∷ [])
word_piece (suc left) c = []

-- what a byte of the form puts
abbrev pub piece : Mode → ℕ → ℕ → List ℕ
piece Text c n = mark_piece c n
piece (Words left) c n = word_piece left c
piece Rest c n = []

abbrev pub next_word : ℕ → Mode
next_word zero = Rest
next_word (suc left) = Words left

unfoldable pub words_after : ℕ → ℕ → Mode
words_after left c = pick (eqb c 62) Text (pick (eqb c 124) (next_word left) (Words left))

-- how it goes on behind it
abbrev pub mode_after : Mode → ℕ → ℕ → Mode
mode_after Text c n = pick (eqb c 60) (Words n) Text
mode_after (Words left) c n = words_after left c
mode_after Rest c n = pick (eqb c 62) Text Rest

unfoldable pub is_mark : ℕ → Bool
is_mark c = eqb c 35 || (eqb c 37 || (eqb c 63 || eqb c 60))

abbrev pub takes_value : Mode → ℕ → Bool
takes_value Text c = is_mark c
takes_value (Words left) c = false
takes_value Rest c = false

abbrev pub value_after : ℕ → Mode → ℕ → ℕ
value_after i m c = pick (takes_value m c) (i + 1) i

-- of the values, value i is next; a value that isn't there is 0
unfoldable pub formed_from : List ℕ → Mode → ℕ → List ℕ → List ℕ
formed_from values m i [] = []
formed_from values m i (c ∷ form) =
    let n = get_or values i 0 in
    piece m c n ++ formed_from values (mode_after m c n) (value_after i m c) form

unfoldable pub formed : List ℕ → List ℕ → List ℕ
formed form values = formed_from values Text 0 form
