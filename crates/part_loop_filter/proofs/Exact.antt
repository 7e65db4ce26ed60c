-- Any two answers that meet the promise of a public function are one.
-- Assumes nothing.
use Prim.Native.Nat.{ℕ}
use mathlib.Core.Path.{◌≡◌, sym, ◌∙◌}
use mathlib.Core.Bool.{false}
use mathlib.Core.List.{List}
use Rattle.std.specs.Prelude.{Result}
use Rattle.base_bits.specs.declared.Cursor.{Cursor}
use Rattle.base_bits.specs.declared.Refusal.{Refusal}
use Rattle.base_syntax.specs.Reader.{over}
use Rattle.base_loop_filter.specs.declared.LoopFilterParams.{LoopFilterParams}
use Rattle.grammar_tables.specs.Reading.{read_loop_filter}
use Rattle.grammar_settings.specs.Settings.{loop_filter_of}

pub one_loop_filter : (old : LoopFilterParams) (s : List ℕ) (p : ℕ) (r q : Result (LoopFilterParams × Cursor) Refusal)
    → r ≡ over (loop_filter_of false old) (read_loop_filter s p) → q ≡ over (loop_filter_of false old) (read_loop_filter s p) → r ≡ q
one_loop_filter old s p r q h k = h ∙ sym k
