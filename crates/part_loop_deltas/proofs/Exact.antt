-- Any two answers that meet the promise of a public function are one.
-- Assumes nothing.
use Prim.Native.Nat.{ℕ}
use mathlib.Core.Path.{◌≡◌, sym, ◌∙◌}
use mathlib.Core.List.{List}
use Rattle.std.specs.Prelude.{Result}
use Rattle.base_bits.specs.declared.Cursor.{Cursor}
use Rattle.base_bits.specs.declared.Refusal.{Refusal}
use Rattle.base_syntax.specs.Reader.{over}
use Rattle.base_loop_filter.specs.declared.LoopFilterParams.{LoopFilterParams}
use Rattle.part_loop_deltas.specs.LoopDeltas.{loop_deltas_of, read_loop_deltas}

pub one_loop_deltas : (old : LoopFilterParams) (s : List ℕ) (p : ℕ) (r q : Result (LoopFilterParams × Cursor) Refusal)
    → r ≡ over (loop_deltas_of old) (read_loop_deltas s p) → q ≡ over (loop_deltas_of old) (read_loop_deltas s p) → r ≡ q
one_loop_deltas old s p r q h k = h ∙ sym k
