-- What a `let .. else` learns: a value is none that a variant gives.
-- Assumes nothing.
use mathlib.Core.Path.{◌≡◌}

-- of a variant with one field, and of one with two
abbrev pub NotOne : {A R : Type 0} → (A → R) → R → Type 0
NotOne {A} make r = (a : A) → r ≡ make a → ⊥

abbrev pub NotTwo : {A B R : Type 0} → (A → B → R) → R → Type 0
NotTwo {A} {B} make r = (a : A) → (b : B) → r ≡ make a b → ⊥
