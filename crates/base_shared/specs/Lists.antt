-- A part of a list, each element of one, a list by its values, and the first number that has a property.
-- Assumes nothing.
use Rattle.std.specs.Prelude.{ℕ, zero, suc, ◌+◌, ◌-◌, Bool, ◌&&◌, List, [], ◌∷◌, ◌++◌, leb, length}
use Rattle.base_shared.specs.Choice.{pick}

-- a part lies inside: its offset is at most the length, and its size at most what is left
abbrev pub inside : List ℕ → ℕ → ℕ → Bool
inside s offset size = leb offset (length s) && leb size (length s - offset)

-- f of each element and its number, from number i on
unfoldable pub each : {A : Type 0} → (ℕ → A → A) → ℕ → List A → List A
each f i [] = []
each f i (x ∷ others) = f i x ∷ each f (i + 1) others

-- the first of the n numbers from i on that has p, or i + n if none has
unfoldable pub first : (ℕ → Bool) → ℕ → ℕ → ℕ
first p i zero = i
first p i (suc n) = pick (p i) i (first p (i + 1) n)

-- the first n values of f
unfoldable pub values_of : {A : Type 0} → (ℕ → A) → ℕ → List A
values_of f zero = []
values_of f (suc n) = values_of f n ++ (f n ∷ [])
