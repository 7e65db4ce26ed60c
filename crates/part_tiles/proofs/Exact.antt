-- Any two answers that meet the promise of a public function are one.
-- Assumes nothing.
use Prim.Native.Nat.{ℕ}
use mathlib.Core.Path.{◌≡◌, sym, ◌∙◌}
use mathlib.Core.List.{List}
use Rattle.std.specs.Prelude.{Result}
use Rattle.base_bits.specs.declared.Cursor.{Cursor}
use Rattle.base_bits.specs.declared.Refusal.{Refusal}
use Rattle.base_syntax.specs.Reader.{over}
use Rattle.part_tiles.specs.declared.Tiles.{Tiles}
use Rattle.part_tiles.specs.Tiles.{tiles_of}
use Rattle.grammar_tables.specs.Reading.{read_tiles}

pub one_tiles : (width : ℕ) (s : List ℕ) (p : ℕ) (r q : Result (Tiles × Cursor) Refusal) → r ≡ over (tiles_of width) (read_tiles width s p) → q ≡ over (tiles_of width) (read_tiles width s p) → r ≡ q
one_tiles width s p r q h k = h ∙ sym k
