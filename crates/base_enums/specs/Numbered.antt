-- An enum's variants and their numbers: the variant that has a number, where there is one.
use Rattle.std.specs.Prelude.{ℕ, ◌≡◌, List, [], ◌∷◌, ◌↔◌, eqb, Result, Ok, Err}
use Rattle.base_shared.specs.Choice.{pick}
use Rattle.base_enums.specs.declared.UnknownNumber.{UnknownNumber}

-- numbers
-- of the variants of a list, the first that f numbers n
abbrev pub numbered : {A : Type 0} → (A → ℕ) → List A → ℕ → Result A UnknownNumber
numbered f [] n = Err (record {})
numbered f (a ∷ others) n = pick (eqb n (f a)) (Ok a) (numbered f others n)

-- what makes t a decision over each number: it answers a to a's number and to no other, and refuses exactly
-- what numbers nothing
pub record Decides {A : Type 0} (f : A → ℕ) (t : ℕ → Result A UnknownNumber) : Type 0 where
  pub accepts : (n : ℕ) (a : A) → (t n ≡ Ok a) ↔ (n ≡ f a)
  pub refuses : (n : ℕ) → (t n ≡ Err (record {})) ↔ ((a : A) → n ≡ f a → ⊥)
