-- Any two answers that meet one of these promises are one.
-- Assumes nothing.
use mathlib.Core.Path.{◌≡◌, sym, ◌∙◌}
use Prim.Native.Nat.{ℕ}
use Rattle.std.specs.Prelude.{Result}
use Rattle.base_bits.specs.declared.Cursor.{Cursor}
use Rattle.base_bits.specs.declared.Refusal.{Refusal}

pub one_field : (r q x : Result (ℕ × Cursor) Refusal) → r ≡ x → q ≡ x → r ≡ q
one_field r q x h k = h ∙ sym k
