-- quantization_params() (VP9 6.2.9): the base and the deltas y-dc, uv-dc and uv-ac.
-- Assumes nothing.
use Rattle.std.specs.Prelude.{ℕ, ◌≡◌, List, ℤ, Result}
use Rattle.base_bits.specs.declared.Cursor.{Cursor}
use Rattle.base_bits.specs.declared.Refusal.{Refusal}
use Rattle.base_syntax.specs.Reader.{over}
use Rattle.grammar_tables.specs.Reading.{read_delta_q}
use Rattle.grammar_settings.specs.Settings.{delta_value}

-- what `read_delta_q` answers, whichever of the three it is
abbrev pub DeltaQIs : List ℕ → ℕ → Result (ℤ × Cursor) Refusal → Type 0
DeltaQIs s p r = (i : ℕ) → r ≡ over delta_value (read_delta_q i s p)
