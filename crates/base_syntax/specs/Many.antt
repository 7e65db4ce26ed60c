-- The same syntax a number of times over: its values, spelling and reading, and what a loop over them makes of a state.
-- Assumes nothing.
use Rattle.std.specs.Prelude.{ℕ, zero, suc, ◌+◌, List, [], ◌∷◌, ◌++◌}
use Rattle.base_syntax.specs.Syntax.{Field}
use Rattle.base_syntax.specs.Reader.{Reader, give, ◌>>=◌}

-- n values
abbrev pub Times : ℕ → Type 0 → Type 0
Times zero A = Unit
Times (suc n) A = A × Times n A

module _ {A : Type 0} where
  -- n values in turn, the first of them number i
  unfoldable pub many_fields : (ℕ → A → List Field) → ℕ → (n : ℕ) → Times n A → List Field
  many_fields f i zero v = []
  many_fields f i (suc n) v = f i v.0 ++ many_fields f (i + 1) n v.1

-- record: what f makes of each of n values
abbrev pub each_of : {A B : Type 0} → (A → B) → (n : ℕ) → Times n A → List B
each_of f zero v = []
each_of f (suc n) v = f v.0 ∷ each_of f n v.1

-- reading
module _ {A : Type 0} where
  -- n times the same value
  abbrev pub times : (n : ℕ) → A → Times n A
  times zero a = tt
  times (suc n) a = (a, times n a)

  unfoldable pub many : ℕ → (n : ℕ) → (ℕ → Reader A) → Reader (Times n A)
  many i zero r = give tt
  many i (suc n) r = do
    v ← r i
    vs ← many (i + 1) n r
    give (v, vs)

  -- a state, changed by each value in turn
  unfoldable pub folds : {S : Type 0} → (S → A → S) → (n : ℕ) → S → Times n A → S
  folds f zero st v = st
  folds f (suc n) st v = folds f n (f st v.0) v.1
