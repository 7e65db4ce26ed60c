-- What a byte of a form does, case by case.
-- Assumes nothing.
use Prim.Native.Nat.{ℕ, zero, suc, ◌-◌, ◌<◌, ◌≤◌}
use mathlib.Core.Path.{◌≡◌, refl}
use mathlib.Core.Bool.{true, false}
use mathlib.Core.Logic.{◌⊎◌, inl, inr, ⊎_elim}
use mathlib.Core.List.{[], ◌∷◌}
use native.Mathlib.Omega.{arith}
use borrow.Author.Tests.{ne_eqb}
use Rattle.text_numeral.specs.Numeral.{numeral}
use Rattle.text_signed.specs.Number.{lowered_text}
use Rattle.text_form.specs.declared.Mode.TheVariants.{Text, Words, Rest}
use Rattle.text_form.specs.Form.{flag_text, mark_piece, word_piece, words_after, is_mark}

module _ (c n : ℕ) where
  pub of_number : c ≡ 35 → mark_piece c n ≡ numeral n
  unfolding mark_piece
  of_number e = rw e

  pub of_lifted : c ≡ 37 → mark_piece c n ≡ lowered_text n
  unfolding mark_piece
  of_lifted e = rw e

  pub of_flag : c ≡ 63 → mark_piece c n ≡ flag_text n
  unfolding mark_piece
  of_flag e = rw e

  pub of_words : c ≡ 60 → mark_piece c n ≡ []
  unfolding mark_piece
  of_words e = rw e

  pub of_text : (c ≡ 35 → ⊥) → (c ≡ 37 → ⊥) → (c ≡ 63 → ⊥) → (c ≡ 60 → ⊥) → mark_piece c n ≡ c ∷ []
  unfolding mark_piece
  of_text h k l m = rw (ne_eqb c 35 h, ne_eqb c 37 k, ne_eqb c 63 l, ne_eqb c 60 m)

module _ (left c : ℕ) where
  pub of_other : 0 < left → word_piece left c ≡ []
  unfolding word_piece
  of_other h = go left h
    where
      go : (k : ℕ) → 0 < k → word_piece k c ≡ []
      go zero h = absurd (omega arith)
      go (suc k) h = refl

  pub of_bound : left ≤ 0 → (c ≡ 62) ⊎ (c ≡ 124) → word_piece left c ≡ []
  unfolding word_piece
  of_bound h k = let z : left ≡ 0 = omega arith in rw z (⊎_elim (λ e. rw e) (λ e. rw e) k)

  pub of_word : left ≤ 0 → ((c ≡ 62) ⊎ (c ≡ 124) → ⊥) → word_piece left c ≡ c ∷ []
  unfolding word_piece
  of_word h k = let z : left ≡ 0 = omega arith in rw (z, ne_eqb c 124 (λ e. k (inr e)), ne_eqb c 62 (λ e. k (inl e)))

  pub closes : c ≡ 62 → Text ≡ words_after left c
  unfolding words_after
  closes e = rw e

  pub goes_on : (c ≡ 62 → ⊥) → (c ≡ 124 → ⊥) → Words left ≡ words_after left c
  unfolding words_after
  goes_on h k = rw (ne_eqb c 62 h, ne_eqb c 124 k)

  pub is_put : c ≡ 124 → left ≡ 0 → Rest ≡ words_after left c
  unfolding words_after
  is_put e z = rw (e, z)

  pub is_passed : c ≡ 124 → (left ≡ 0 → ⊥) → Words (left - 1) ≡ words_after left c
  unfolding words_after
  is_passed e h = rw e (go left h)
    where
      go : (k : ℕ) → (k ≡ 0 → ⊥) → Words (k - 1) ≡ words_after k 124
      go zero h = absurd (h refl)
      go (suc k) h = let z : suc k - 1 ≡ k = omega arith in rw z

module _ (c : ℕ) where
  pub marked : (c ≡ 35) ⊎ ((c ≡ 37) ⊎ ((c ≡ 60) ⊎ (c ≡ 63))) → true ≡ is_mark c
  unfolding is_mark
  marked = ⊎_elim (λ e. rw e) (⊎_elim (λ e. rw e) (⊎_elim (λ e. rw e) (λ e. rw e)))

  pub not_marked : ((c ≡ 35) ⊎ ((c ≡ 37) ⊎ ((c ≡ 60) ⊎ (c ≡ 63))) → ⊥) → false ≡ is_mark c
  unfolding is_mark
  not_marked h = rw (ne_eqb c 35 (λ e. h (inl e)), ne_eqb c 37 (λ e. h (inr (inl e))), ne_eqb c 63 (λ e. h (inr (inr (inr e)))), ne_eqb c 60 (λ e. h (inr (inr (inl e)))))
