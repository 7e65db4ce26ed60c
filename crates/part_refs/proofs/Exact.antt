-- Any two answers that meet the promise of a reading function are one.
-- Assumes nothing.
use mathlib.Core.Path.{◌≡◌, sym, ◌∙◌}
use Rattle.std.specs.Prelude.{Result}
use Rattle.base_bits.specs.declared.Cursor.{Cursor}
use Rattle.base_bits.specs.declared.Refusal.{Refusal}
use Rattle.part_refs.specs.declared.Sources.{Sources}

pub one_sources : (r q x : Result (Sources × Cursor) Refusal) → r ≡ x → q ≡ x → r ≡ q
one_sources r q x h k = h ∙ sym k
