-- Any two answers that meet the promise of a reading function are one.
-- Assumes nothing.
use Prim.Native.Nat.{ℕ}
use mathlib.Core.Path.{◌≡◌, sym, ◌∙◌}
use mathlib.Core.List.{List}
use Rattle.std.specs.Prelude.{Result}
use Rattle.base_bits.specs.declared.Cursor.{Cursor}
use Rattle.base_bits.specs.declared.Refusal.{Refusal}
use Rattle.base_syntax.specs.Reader.{over}
use Rattle.base_size.specs.declared.FrameSize.{FrameSize}
use Rattle.part_sizes.specs.declared.Sizes.{Sizes}
use Rattle.grammar_tables.specs.Reading.{read_render}
use Rattle.part_sizes.specs.Sizes.{read_sizes, with_render, sizes_of}

pub one_render : (frame : FrameSize) (s : List ℕ) (p : ℕ) (r q : Result (Sizes × Cursor) Refusal)
    → r ≡ over (with_render frame) (read_render s p) → q ≡ over (with_render frame) (read_render s p) → r ≡ q
one_render frame s p r q h k = h ∙ sym k

pub one_sizes : (s : List ℕ) (p : ℕ) (r q : Result (Sizes × Cursor) Refusal) → r ≡ over sizes_of (read_sizes s p) → q ≡ over sizes_of (read_sizes s p) → r ≡ q
one_sizes s p r q h k = h ∙ sym k
