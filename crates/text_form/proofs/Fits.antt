-- How long a form's text can be: each of its bytes puts one at most, and a mark 20 more.
-- Assumes nothing.
use Prim.Native.Nat.{ℕ, zero, suc, ◌+◌, ◌-◌, ◌*◌, ◌≤◌}
use mathlib.Core.Path.{◌≡◌}
use mathlib.Core.Bool.{Bool, true, false, ◌||◌}
use mathlib.Core.List.{List, [], ◌∷◌, ◌++◌}
use native.Mathlib.Omega.{arith}
use lib.Dec.{eqb, ltb, leb}
use lib.ListN.{length, get_or, length-append}
use borrow.Author.Tests.{leb-true}
use Rattle.base_shared.specs.Choice.{pick}
use Rattle.text_numeral.specs.Ascii.{ascii}
use Rattle.text_numeral.specs.Numeral.{numeral}
use Rattle.text_numeral.proofs.Digits.{length_numeral}
use Rattle.text_signed.specs.Number.{lowered_text}
use Rattle.text_form.specs.declared.Mode.{Mode}
use Rattle.text_form.specs.declared.Mode.TheVariants.{Text, Words, Rest}
use Rattle.text_form.specs.Form.{flag_text, mark_piece, word_piece, piece, mode_after, is_mark, value_after, formed_from, formed}

unfoldable pub marks_in : List ℕ → ℕ
marks_in [] = 0
marks_in (c ∷ form) = pick (is_mark c) 1 0 + marks_in form

lowered_fits : (n : ℕ) → length (lowered_text n) ≤ 21
unfolding lowered_text
lowered_fits n = go (ltb n 65536)
  where
    go : (b : Bool) → length (pick b (ascii "-" ++ numeral (65536 - n)) (numeral (n - 65536))) ≤ 21
    go true = omega (arith, length_numeral (65536 - n))
    go false = omega (arith, length_numeral (n - 65536))

flag_fits : (n : ℕ) → length (flag_text n) ≤ 5
flag_fits n = go (eqb n 1)
  where
    go : (b : Bool) → length (pick b (ascii "true") (ascii "false")) ≤ 5
    go true = omega arith
    go false = omega arith

word_fits : (left c : ℕ) → length (word_piece left c) ≤ 1
unfolding word_piece
word_fits zero c = go (eqb c 124 || eqb c 62)
  where
    go : (b : Bool) → length (pick b [] (c ∷ [])) ≤ 1
    go true = omega arith
    go false = omega arith
word_fits (suc left) c = omega arith

piece_fits : (m : Mode) (c n : ℕ) → length (piece m c n) ≤ 1 + 20 * pick (is_mark c) 1 0
unfolding mark_piece is_mark
piece_fits Text c n = go (eqb c 35) (eqb c 37) (eqb c 63) (eqb c 60)
  where
    go : (a b d e : Bool) → length (pick a (numeral n) (pick b (lowered_text n) (pick d (flag_text n) (pick e [] (c ∷ []))))) ≤ 1 + 20 * pick (a || (b || (d || e))) 1 0
    go true b d e = omega (arith, length_numeral n)
    go false true d e = omega (arith, lowered_fits n)
    go false false true e = omega (arith, flag_fits n)
    go false false false true = omega arith
    go false false false false = omega arith
piece_fits (Words left) c n = omega (arith, word_fits left c)
piece_fits Rest c n = omega arith

from_fits : (values : List ℕ) (m : Mode) (i : ℕ) (form : List ℕ) → length (formed_from values m i form) ≤ length form + 20 * marks_in form
unfolding formed_from marks_in
from_fits values m i [] = omega arith
from_fits values m i (c ∷ form) =
    let n = get_or values i 0 in
    rw length-append (omega (arith, piece_fits m c n, from_fits values (mode_after m c n) (value_after i m c) form))

pub within : (form values : List ℕ) (k : ℕ) → leb (length form + 20 * marks_in form) k ≡ true → length (formed form values) ≤ k
unfolding formed
within form values k e = omega (arith, from_fits values Text 0 form, leb-true (length form + 20 * marks_in form) k e)
