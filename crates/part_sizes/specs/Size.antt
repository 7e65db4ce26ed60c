-- frame_size() (VP9 6.2.3), and the two numbers of render_size(): each is one less than the size.
-- Assumes nothing.
use Rattle.std.specs.Prelude.{ℕ, ◌≡◌, Bool, List, Result}
use Rattle.base_bits.specs.Refusal.{Name}
use Rattle.base_shared.specs.Choice.{pick}
use Rattle.base_syntax.specs.Reader.{group_if, over}
use Rattle.base_bits.specs.declared.Cursor.{Cursor}
use Rattle.base_bits.specs.declared.Refusal.{Refusal}
use Rattle.base_size.specs.declared.FrameSize.{FrameSize}
use Rattle.grammar_tables.specs.Tables.{SizeValues}
use Rattle.grammar_tables.specs.Header.{size_of}
use Rattle.grammar_tables.specs.Reading.{no_size_values, read_size}

-- a size that is there only if b holds, else another
abbrev pub size_or : Bool → FrameSize → SizeValues → FrameSize
size_or b other v = pick b (size_of v) other

-- what `parse_frame_size` answers, under whatever names its fields have
abbrev pub SizeIs : List ℕ → ℕ → Result (FrameSize × Cursor) Refusal → Type 0
SizeIs s p r = (x y : Name) → r ≡ over size_of (read_size x y s p)

-- and where the size is there only if b holds
abbrev pub SizeOrIs : Bool → FrameSize → List ℕ → ℕ → Result (FrameSize × Cursor) Refusal → Type 0
SizeOrIs b other s p r = (x y : Name) → r ≡ over (size_or b other) (group_if b no_size_values (read_size x y) s p)
