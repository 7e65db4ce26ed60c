-- Any two answers that meet the promise of `parse_sampling` are one.
-- Assumes nothing.
use Prim.Native.Nat.{ℕ}
use mathlib.Core.Path.{◌≡◌, sym, ◌∙◌}
use mathlib.Core.List.{List}
use Rattle.std.specs.Prelude.{Result}
use Rattle.base_bits.specs.declared.Cursor.{Cursor}
use Rattle.base_bits.specs.declared.Refusal.{Refusal}
use Rattle.base_syntax.specs.Reader.{over}
use Rattle.part_sampling.specs.declared.Sampling.{Sampling}
use Rattle.part_sampling.specs.Sampling.{sampling_of, read_sampling}

pub one_sampling : (s : List ℕ) (p profile space : ℕ) (r q : Result (Sampling × Cursor) Refusal) → r ≡ over (sampling_of profile space) (read_sampling profile space s p)
    → q ≡ over (sampling_of profile space) (read_sampling profile space s p) → r ≡ q
one_sampling s p profile space r q h k = h ∙ sym k
