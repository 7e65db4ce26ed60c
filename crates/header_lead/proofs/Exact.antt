-- Any two answers that meet one of these promises are one.
-- Assumes nothing.
use mathlib.Core.Path.{◌≡◌, sym, ◌∙◌}
use Rattle.std.specs.Prelude.{Result}
use Rattle.base_bits.specs.declared.Cursor.{Cursor}
use Rattle.base_bits.specs.declared.Refusal.{Refusal}
use Rattle.header_lead.specs.declared.Lead.{Lead}

pub one_lead : (r q x : Result (Lead × Cursor) Refusal) → r ≡ x → q ≡ x → r ≡ q
one_lead r q x h k = h ∙ sym k
