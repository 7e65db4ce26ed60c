-- Any two answers that meet the promise of `parse_color_config` or of `parse_intra_color` are one.
-- Assumes nothing.
use Prim.Native.Nat.{ℕ}
use mathlib.Core.Path.{◌≡◌, sym, ◌∙◌}
use mathlib.Core.List.{List}
use Rattle.std.specs.Prelude.{Result}
use Rattle.base_bits.specs.declared.Cursor.{Cursor}
use Rattle.base_bits.specs.declared.Refusal.{Refusal}
use Rattle.base_syntax.specs.Reader.{over}
use Rattle.part_color.specs.declared.Color.{Color}
use Rattle.part_color.specs.Color.{color_of}
use Rattle.grammar_tables.specs.Reading.{read_color}
use Rattle.part_color.specs.Intra.{read_intra_color, intra_color_of}

module _ (s : List ℕ) (p profile : ℕ) (r q : Result (Color × Cursor) Refusal) where
  pub one_color : r ≡ over (color_of profile) (read_color profile s p) → q ≡ over (color_of profile) (read_color profile s p) → r ≡ q
  one_color h k = h ∙ sym k

  pub one_intra_color : r ≡ over (intra_color_of profile) (read_intra_color profile s p) → q ≡ over (intra_color_of profile) (read_intra_color profile s p) → r ≡ q
  one_intra_color h k = h ∙ sym k
