-- What a reading comes to, along the groups that the code reads.
-- Assumes nothing.
use Prim.Native.Nat.{ℕ}
use mathlib.Core.Path.{◌≡◌, refl, sym, ap, ◌∙◌}
use Rattle.std.specs.Prelude.{Result, Ok, Err}
use Rattle.std.specs.Result.{IsErrAnd, result_from_control_flow}
use Rattle.std.proofs.Common.{Continue, Break}
use Rattle.std.proofs.lemmas.Result.{err_from_is_err_and}
use Rattle.base_bits.specs.declared.Cursor.{Cursor}
use Rattle.base_bits.specs.declared.Refusal.{Refusal}
use Rattle.base_syntax.specs.Reader.{Read, read, stopped, bind, over}
use Rattle.base_types.specs.declared.header.Header.{Header}
use Rattle.base_types.specs.declared.state.ReaderState.{ReaderState}
use Rattle.header_answer.specs.Answer.{HeaderRead, refused_with, header_told}
use Rattle.header_parser.specs.Answer.{outcome}

-- what is answered to what a group was read as: a refusal, or what k makes of the value and the place past it
abbrev pub onward : {A : Type 0} → ReaderState → (A → ℕ → HeaderRead) → Result (A × Cursor) Refusal → HeaderRead
onward st k (Ok v) = k v.0 v.1.at
onward st k (Err e) = refused_with st e

-- where a group's `?` goes on, and where it returns
module _ {A : Type 0} (st : ReaderState) (k : A → ℕ → HeaderRead) {r x : Result (A × Cursor) Refusal} (e : r ≡ x) {b : _} (d : r ≡ result_from_control_flow b) where
  pub step : {v : A × Cursor} {y : HeaderRead} → b ≡ Continue v → y ≡ k v.0 v.1.at → y ≡ onward st k x
  step h t = t ∙ ap (onward st k) (sym (rw h at d) ∙ e)

  pub stop : {z : _} (o : Result Header Refusal) → b ≡ Break z → IsErrAnd o (λ w. w ≡ z.0) → header_told st o ≡ onward st k x
  stop o h i = let j = err_from_is_err_and o i in rw (j.1, j.2) (ap (onward st k) (sym (rw h at d) ∙ e))

-- one reading after another
pub outcome_bind : {A B : Type 0} (st : ReaderState) (m : Read A) (k : A → ℕ → Read B) (f : B → ℕ → HeaderRead) → outcome st f (bind m k) ≡ outcome st (λ a p. outcome st f (k a p)) m
outcome_bind st (read a p) k f = refl
outcome_bind st (stopped w) k f = refl

-- what f makes of the value that is read, and k of what is answered for it
pub outcome_same : {A B : Type 0} (st : ReaderState) (g : A → B) (m : Read A) (f : A → ℕ → HeaderRead) (k : B → ℕ → HeaderRead) → ((a : A) (p : ℕ) → m ≡ read a p → f a p ≡ k (g a) p) → outcome st f m ≡ onward st k (over g m)
outcome_same st g (read a p) f k h = h a p refl
outcome_same st g (stopped w) f k h = refl
