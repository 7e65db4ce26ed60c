-- The records that the code makes are those of the values.
-- Assumes nothing.
use Prim.Native.Nat.{ℕ}
use Rattle.std.specs.Prelude.{Result, Ok}
use Rattle.base_bits.specs.declared.Refusal.{Refusal}
use Rattle.part_sizes.specs.declared.Sizes.{Sizes}
use mathlib.Core.Path.{◌≡◌}
use mathlib.Core.Bool.{Bool, true, false}
use mathlib.Core.List.{List}
use lib.Dec.{eqb}
use Rattle.base_bits.specs.declared.Cursor.{Cursor}
use Rattle.base_syntax.specs.Reader.{over, read, group_if}
use Rattle.base_size.specs.declared.FrameSize.{FrameSize}
use Rattle.part_sizes.specs.Size.{size_or, SizeIs, SizeOrIs}
use Rattle.grammar_tables.specs.Tables.{SizeValues, RenderValues}
use Rattle.grammar_tables.specs.Header.{size_of}
use Rattle.part_sizes.specs.Render.{render_of}
use Rattle.part_sizes.specs.Sizes.{with_render, sizes_of}

pub render_read : (u : ℕ) (frame z : FrameSize) (a : SizeValues) (c : Cursor) → z ≡ size_or (eqb u 1) frame a
    → ◌≡◌ {A = Result (Sizes × Cursor) Refusal} (Ok (record { frame = frame; render = record { different = eqb u 1; size = z } }, c)) (over (with_render frame) (read (record { render_and_frame_size_different = u; size = a }) c.at))
unfolding with_render render_of
render_read u frame z a c e = rw e

pub sizes_read : (frame : FrameSize) (a : SizeValues) (b : RenderValues) (p : ℕ) → frame ≡ size_of a
    → over (with_render frame) (read b p) ≡ over sizes_of (read (record { size = a; render = b }) p)
unfolding sizes_of
sizes_read frame a b p e = rw e

-- the two answers of a size that is there only sometimes
module _ (b : Bool) (other : FrameSize) (s : List ℕ) (p : ℕ) where
  pub size_there : (r : Result (FrameSize × Cursor) Refusal) → b ≡ true → SizeIs s p r → SizeOrIs b other s p r
  unfolding group_if
  size_there r t e x y = rw t (e x y)

  pub size_not_there : (c : Cursor) → b ≡ false → c.at ≡ p → SizeOrIs b other s p (Ok (other, c))
  unfolding group_if
  size_not_there c t h x y = rw (t, ← h)
