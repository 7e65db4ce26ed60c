-- A probability behind a flag: read_prob() (VP9 6.2.12).
-- Assumes nothing.
use Rattle.std.specs.Prelude.{ℕ, ◌≡◌, List, Result}
use Rattle.base_bits.specs.declared.Cursor.{Cursor}
use Rattle.base_bits.specs.declared.Refusal.{Refusal}
use Rattle.base_bits.specs.Refusal.{Name}
use Rattle.base_syntax.specs.Reader.{over}
use Rattle.grammar_settings.specs.Settings.{prob_of}
use Rattle.grammar_tables.specs.Reading.{read_prob}

-- what `read_prob` answers, under whatever names its fields have
abbrev pub ProbIs : List ℕ → ℕ → Result (ℕ × Cursor) Refusal → Type 0
ProbIs s p r = (x y : Name) → r ≡ over prob_of (read_prob x y s p)
