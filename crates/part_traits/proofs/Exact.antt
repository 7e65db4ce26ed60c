-- Any two answers that meet one of these promises are one.
-- Assumes nothing.
use mathlib.Core.Path.{◌≡◌, sym, ◌∙◌}
use Rattle.std.specs.Prelude.{Result}
use Rattle.base_bits.specs.declared.Cursor.{Cursor}
use Rattle.base_bits.specs.declared.Refusal.{Refusal}
use Rattle.part_traits.specs.declared.Traits.{Traits}
use Rattle.part_traits.specs.declared.Kind.{Kind}
use Rattle.part_traits.specs.declared.Context.{Context}

pub one_traits : (r q x : Result (Traits × Cursor) Refusal) → r ≡ x → q ≡ x → r ≡ q
one_traits r q x h k = h ∙ sym k

pub one_kind : (r q x : Result (Kind × Cursor) Refusal) → r ≡ x → q ≡ x → r ≡ q
one_kind r q x h k = h ∙ sym k

pub one_context : (r q x : Result (Context × Cursor) Refusal) → r ≡ x → q ≡ x → r ≡ q
one_context r q x h k = h ∙ sym k
