-- The first number that has a property: it is among those that are tried or the one past them, it has the property,
-- and none before it has.
-- Assumes nothing.
use Prim.Native.Nat.{ℕ, zero, suc, ◌+◌, ◌<◌, ◌≤◌}
use mathlib.Core.Path.{◌≡◌, refl}
use mathlib.Core.Bool.{Bool, true, false}
use mathlib.Core.Logic.{⊎_elim}
use native.Mathlib.Nat.{add-zero, eq-or-lt_of_le}
use native.Mathlib.Omega.{arith}
use Rattle.base_shared.specs.Choice.{pick}
use Rattle.base_shared.specs.Lists.{first}

module _ (p : ℕ → Bool) where
  pub first_le : (i n : ℕ) → first p i n ≤ i + n
  unfolding first
  first_le i zero = omega arith
  first_le i (suc n) = go (p i) (first_le (i + 1) n)
    where
      go : (b : Bool) → first p (i + 1) n ≤ i + 1 + n → pick b i (first p (i + 1) n) ≤ i + suc n
      go true h = omega arith
      go false h = omega arith

  -- where it is among those that are tried
  pub first_has : (i n : ℕ) → first p i n < i + n → p (first p i n) ≡ true
  unfolding first
  first_has i zero h = absurd (omega arith)
  first_has i (suc n) h = go (p i) refl (first_has (i + 1) n) h
    where
      go : (b : Bool) → p i ≡ b → (first p (i + 1) n < i + 1 + n → p (first p (i + 1) n) ≡ true) → pick b i (first p (i + 1) n) < i + suc n → p (pick b i (first p (i + 1) n)) ≡ true
      go true e later k = e
      go false e later k = later (omega arith)

  -- also where it is the one past them
  pub first_has_end : (i n : ℕ) → p (i + n) ≡ true → p (first p i n) ≡ true
  first_has_end i n h = ⊎_elim (λ e. rw e h) (first_has i n) (eq-or-lt_of_le (first_le i n))

  pub none_before : (i n j : ℕ) → i ≤ j → j < first p i n → p j ≡ false
  unfolding first
  none_before i zero j l h = absurd (omega arith)
  none_before i (suc n) j l h = go (p i) refl (none_before (i + 1) n j) h
    where
      go : (b : Bool) → p i ≡ b → (i + 1 ≤ j → j < first p (i + 1) n → p j ≡ false) → j < pick b i (first p (i + 1) n) → p j ≡ false
      go true e later k = absurd (omega arith)
      go false e later k = ⊎_elim (λ q. rw q at e) (λ q. later (omega arith) k) (eq-or-lt_of_le {n = i} {m = j} l)
