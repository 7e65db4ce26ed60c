-- What it is for a reader to read a syntax.
-- Assumes nothing.
use Rattle.std.specs.Prelude.{ℕ, ◌+◌, ◌≤◌, ◌≡◌, List, ◌++◌}
use Rattle.base_syntax.specs.Syntax.{Field, bare, size, Ranged}
use Rattle.base_syntax.specs.Fault.{Fits, Reason, Stops}
use Rattle.base_syntax.specs.Reader.{Read, read, stopped, Reader}

-- any value
abbrev pub Any : {A : Type 0} → A → Type 0
Any a = Unit

-- the reading got to n at least: its value ends there, or the field at fault starts there
abbrev pub Past : {A : Type 0} → ℕ → Read A → Type 0
Past n (read a e) = n ≤ e
Past n (stopped w) = n ≤ w.first

-- r reads what f spells, among the values that have K, what earlier fields fixed
pub record Reads {A : Type 0} (K : A → Type 0) (f : A → List Field) (r : Reader A) : Type 0 where
  -- there are values
  pub some : (a : A) × K a × Ranged (f a)
  -- it answers a value exactly if its fields stand there, and the place past them
  pub sound : (s : List ℕ) (p : ℕ) (a : A) (e : ℕ) → r s p ≡ read a e → K a × Fits s p (f a) × (e ≡ p + size (f a))
  pub complete : (s : List ℕ) (p : ℕ) (a : A) → K a → Fits s p (f a) → r s p ≡ read a (p + size (f a))
  -- it stops for the reason w exactly if the spelling of some value stops for that reason
  pub why : (s : List ℕ) (p : ℕ) (w : Reason) → r s p ≡ stopped w → (a : A) × K a × Ranged (f a) × Stops s p (f a) w
  pub refuses : (s : List ℕ) (p : ℕ) (w : Reason) (a : A) → K a → Stops s p (f a) w → r s p ≡ stopped w
  -- where the first fields of a spelling stand, it gets past them
  pub passes : (s : List ℕ) (p : ℕ) (a : A) (b c : List Field) → K a → f a ≡ b ++ c → Fits s p b → Past (p + size b) (r s p)
  -- where its fields aren't there, there is one value at most: each number is 0
  pub only : (a b : A) → K a → K b → Ranged (bare (f a)) → Ranged (bare (f b)) → a ≡ b
