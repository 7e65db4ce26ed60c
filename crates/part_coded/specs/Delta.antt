-- A delta behind a flag: read_delta_q() (VP9 6.2.10), and each delta of loop_filter_params() (6.2.8). The tables give
-- its fields' names and its width.
-- Assumes nothing.
use Rattle.std.specs.Prelude.{ℕ, ◌≡◌, List, leb, Result, Err}
use Rattle.base_bits.specs.declared.BitsError.{BitsError}
use Rattle.base_bits.specs.declared.BitsError.TheVariants.{Short, TooWide}
use Rattle.base_bits.specs.declared.Cursor.{Cursor}
use Rattle.base_bits.specs.declared.Refusal.{Refusal}
use Rattle.base_bits.specs.Refusal.{Name}
use Rattle.base_syntax.specs.Syntax.{flag}
use Rattle.base_shared.specs.Choice.{pick_t}
use Rattle.base_syntax.specs.Reader.{tell, over}
use Rattle.grammar_settings.specs.Settings.{signed}
use Rattle.part_coded.specs.declared.Delta.{Delta}
use Rattle.grammar_tables.specs.Tables.{DeltaValues}
use Rattle.grammar_tables.specs.Reading.{read_delta}

-- the code's delta
unfoldable pub delta_of : DeltaValues → Delta
delta_of v = record { coded = flag v.coded; value = signed v.magnitude (flag v.sign) }

-- for a width of at most 7: the delta, under whatever names its fields have, or the refusal of a field that is short
abbrev pub CodedIs : List ℕ → ℕ → ℕ → Result (Delta × Cursor) Refusal → Type 0
CodedIs s p n r = (x y z : Name) → r ≡ over delta_of (read_delta x y z n s p)

-- what is answered for such a width: the delta, or that a field is short
abbrev pub NarrowIs : List ℕ → ℕ → ℕ → Result (Delta × Cursor) BitsError → Type 0
NarrowIs s p n r = (x y z : Name) → r ≡ tell (λ w. Short) delta_of (read_delta x y z n s p)

-- and for any width
abbrev pub DeltaIs : List ℕ → ℕ → ℕ → Result (Delta × Cursor) BitsError → Type 0
DeltaIs s p n r = pick_t (leb n 7) (NarrowIs s p n r) (r ≡ Err TooWide)
