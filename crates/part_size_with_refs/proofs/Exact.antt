-- Any two answers that meet the promise of a reading function are one.
-- Assumes nothing.
use Prim.Native.Nat.{ℕ}
use mathlib.Core.Path.{◌≡◌, sym, ◌∙◌}
use mathlib.Core.List.{List}
use Rattle.std.specs.Prelude.{Result}
use Rattle.base_bits.specs.declared.Cursor.{Cursor}
use Rattle.base_bits.specs.declared.Refusal.{Refusal}
use Rattle.base_syntax.specs.Reader.{over}
use Rattle.base_size.specs.declared.FrameSize.{FrameSize}
use Rattle.part_sizes.specs.declared.Sizes.{Sizes}
use Rattle.part_refs.specs.declared.Refs.{Refs}
use Rattle.part_size_with_refs.specs.SizeWithRefs.{read_size_with_refs, size_with_refs_of}

pub one_size_with_refs : (slots : List FrameSize) (refs : Refs) (s : List ℕ) (p : ℕ) (r q : Result (Sizes × Cursor) Refusal)
    → r ≡ over (size_with_refs_of slots refs) (read_size_with_refs s p) → q ≡ over (size_with_refs_of slots refs) (read_size_with_refs s p) → r ≡ q
one_size_with_refs slots refs s p r q h k = h ∙ sym k
