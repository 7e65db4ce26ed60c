-- Any two answers that meet one of these promises are one.
-- Assumes nothing.
use mathlib.Core.Path.{◌≡◌, sym, ◌∙◌}
use Rattle.std.specs.Prelude.{Result}
use Rattle.base_bits.specs.declared.Cursor.{Cursor}
use Rattle.base_bits.specs.declared.Refusal.{Refusal}
use Rattle.part_opening.specs.declared.Opening.{Opening}

pub one_opening : (r q x : Result (Opening × Cursor) Refusal) → r ≡ x → q ≡ x → r ≡ q
one_opening r q x h k = h ∙ sym k

pub one_sync : (r q x : Result (Unit {0} × Cursor) Refusal) → r ≡ x → q ≡ x → r ≡ q
one_sync r q x h k = h ∙ sym k
