-- Any two answers that meet the promise of `parse_data` are one.
-- Assumes nothing.
use Prim.Native.Nat.{ℕ}
use mathlib.Core.Path.{◌≡◌, sym, ◌∙◌}
use mathlib.Core.List.{List}
use Rattle.std.specs.Prelude.{Result}
use Rattle.base_bits.specs.declared.Cursor.{Cursor}
use Rattle.base_bits.specs.declared.Refusal.{Refusal}
use Rattle.base_segmentation.specs.declared.SegmentationParams.{SegmentationParams}
use Rattle.part_segment_data.specs.Data.{DataIs}

pub one_data : (s : List ℕ) (p : ℕ) (old : SegmentationParams) (r q : Result (SegmentationParams × Cursor) Refusal) → DataIs s p old r → DataIs s p old q → r ≡ q
one_data s p old r q h k = h ∙ sym k
