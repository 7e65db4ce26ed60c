-- Any two answers that meet one of these promises are one.
-- Assumes nothing.
use mathlib.Core.Path.{◌≡◌, sym, ◌∙◌}
use Rattle.std.specs.Prelude.{Result}
use Rattle.base_bits.specs.declared.Cursor.{Cursor}
use Rattle.base_bits.specs.declared.Refusal.{Refusal}
use Rattle.header_picture.specs.declared.Picture.{Picture}

-- of `parse_key` and `parse_intra_only`, and of `parse_inter` (crate header_inter)
pub one_picture : (r q x : Result (Picture × Cursor) Refusal) → r ≡ x → q ≡ x → r ≡ q
one_picture r q x h k = h ∙ sym k
