-- Any two answers that meet the promise of a public function are one.
-- Assumes nothing.
use mathlib.Core.Path.{◌≡◌, sym, ◌∙◌}
use Rattle.std.specs.Prelude.{Result}
use Rattle.base_bits.specs.declared.Cursor.{Cursor}
use Rattle.base_bits.specs.declared.Refusal.{Refusal}
use Rattle.part_motion.specs.declared.Motion.{Motion}

pub one_motion : (r q x : Result (Motion × Cursor) Refusal) → r ≡ x → q ≡ x → r ≡ q
one_motion r q x h k = h ∙ sym k
