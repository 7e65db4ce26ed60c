-- Readings one after the other, however they are bracketed: how a table's reading is that of the parts that the code
-- reads.
-- Assumes nothing.
use Prim.Native.Nat.{ℕ}
use Rattle.std.specs.Prelude.{Result}
use Rattle.base_bits.specs.declared.Cursor.{Cursor}
use Rattle.base_bits.specs.declared.Refusal.{Refusal}
use mathlib.Core.Path.{◌≡◌, refl}
use mathlib.Core.Bool.{Bool, true, false}
use Rattle.base_syntax.specs.Reader.{Read, read, stopped, bind, over}

pub bind_assoc : {A B C : Type 0} (m : Read A) (k : A → ℕ → Read B) (l : B → ℕ → Read C) → bind (bind m k) l ≡ bind m (λ a p. bind (k a p) l)
bind_assoc (read a p) k l = refl
bind_assoc (stopped w) k l = refl

pub bind_same : {A B : Type 0} (m : Read A) (k l : A → ℕ → Read B) → ((a : A) (p : ℕ) → k a p ≡ l a p) → bind m k ≡ bind m l
bind_same (read a p) k l h = h a p
bind_same (stopped w) k l h = refl

-- an answer to a reading is one to its parts
pub as_parts : {A D : Type 0} (f : A → D) {m n : Read A} {y : Result (D × Cursor) Refusal} → m ≡ n → y ≡ over f n → y ≡ over f m
as_parts f e h = rw e h

-- by a test, whichever way it goes
pub split : {X : Type 0} (b : Bool) → (b ≡ true → X) → (b ≡ false → X) → X
split true f g = f refl
split false f g = g refl
