-- Any two answers that meet the promise of `parse_feature` are one.
-- Assumes nothing.
use Prim.Native.Nat.{ℕ}
use mathlib.Core.Path.{◌≡◌, sym, ◌∙◌}
use mathlib.Core.List.{List}
use Rattle.std.specs.Prelude.{Result}
use Rattle.base_bits.specs.declared.Cursor.{Cursor}
use Rattle.base_bits.specs.declared.Refusal.{Refusal}
use Rattle.part_feature.specs.declared.Feature.{Feature}
use Rattle.part_feature.specs.Feature.{FeatureIs}

pub one_feature : (s : List ℕ) (p j : ℕ) (r q : Result (Feature × Cursor) Refusal) → FeatureIs s p j r → FeatureIs s p j q → r ≡ q
one_feature s p j r q h k = h 0 ∙ sym (k 0)
