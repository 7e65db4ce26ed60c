-- What a form's text is, mark by mark: text without marks stands as it is, and a mark gives place to the next value. Of
-- words Example.antt says it.
-- Assumes nothing.
use Prim.Native.Nat.{ℕ, ◌+◌}
use mathlib.Core.Path.{◌≡◌, refl, ap}
use mathlib.Core.Logic.{⊎_elim}
use mathlib.Core.List.{List, [], ◌∷◌, ◌++◌}
use lib.ListN.{get_or}
use borrow.Author.Tests.{ne_eqb}
use Rattle.text_numeral.specs.Numeral.{numeral}
use Rattle.text_signed.specs.Number.{lowered_text}
use Rattle.text_form.specs.declared.Mode.TheVariants.{Text}
use Rattle.text_form.specs.Form.{flag_text, mark_piece, is_mark, formed_from}
use Rattle.text_form.proofs.Cases.{of_text, not_marked}

abbrev pub NoMark : ℕ → Type 0
NoMark c = (c ≡ 35 → ⊥) × (c ≡ 37 → ⊥) × (c ≡ 63 → ⊥) × (c ≡ 60 → ⊥)

abbrev pub NoMarks : List ℕ → Type 0
NoMarks [] = Unit
NoMarks (c ∷ t) = NoMark c × NoMarks t

module _ (values : List ℕ) (i : ℕ) (form : List ℕ) where
  pub as_it_is : (t : List ℕ) → NoMarks t → formed_from values Text i (t ++ form) ≡ t ++ formed_from values Text i form
  unfolding formed_from
  as_it_is [] h = refl
  as_it_is (c ∷ t) h =
      let k = h.0 in
      rw (of_text c (get_or values i 0) k.0 k.1 k.2 k.3, ne_eqb c 60 k.3, ← not_marked c (⊎_elim k.0 (⊎_elim k.1 (⊎_elim k.3 k.2)))) (ap (λ later. c ∷ later) (as_it_is t h.1))

  pub as_number : formed_from values Text i (35 ∷ form) ≡ numeral (get_or values i 0) ++ formed_from values Text (i + 1) form
  unfolding formed_from mark_piece is_mark
  as_number = refl

  pub as_lifted : formed_from values Text i (37 ∷ form) ≡ lowered_text (get_or values i 0) ++ formed_from values Text (i + 1) form
  unfolding formed_from mark_piece is_mark
  as_lifted = refl

  pub as_flag : formed_from values Text i (63 ∷ form) ≡ flag_text (get_or values i 0) ++ formed_from values Text (i + 1) form
  unfolding formed_from mark_piece is_mark
  as_flag = refl
