-- The records that the code makes are those of the values.
-- Assumes nothing.
use Prim.Native.Nat.{ℕ}
use mathlib.Core.Path.{◌≡◌}
use lib.Dec.{eqb}
use borrow.Author.Tests.{eq-eqb, ne_eqb}
use Rattle.std.specs.Prelude.{Result, Ok}
use Rattle.base_bits.specs.declared.Cursor.{Cursor}
use Rattle.base_bits.specs.declared.Refusal.{Refusal}
use Rattle.base_syntax.specs.Reader.{read, over}
use Rattle.base_segmentation.specs.declared.SegmentationParams.{SegmentationParams}
use Rattle.part_segment_data.specs.declared.Features.{Features}
use Rattle.part_segment_data.specs.Features.{FeaturesValues, feature_rows}
use Rattle.part_segment_data.specs.Data.{with_data, data_of}

-- the settings after the features' part
module _ (old : SegmentationParams) (d a : ℕ) (c : Cursor) (v : FeaturesValues) where
  pub data_read : (f : Features) → d ≡ 1 → f ≡ feature_rows v
      → ◌≡◌ {A = Result (SegmentationParams × Cursor) Refusal} (Ok (with_data old (eqb d 1) (eqb a 1) f.enabled f.values, c)) (over (data_of old) (read (record { update_data = d; abs_or_delta_update = a; features = v }) c.at))
  unfolding data_of
  data_read f ed ef = rw (eq-eqb d 1 ed, ef)

  pub data_kept : (d ≡ 1 → ⊥)
      → ◌≡◌ {A = Result (SegmentationParams × Cursor) Refusal} (Ok (with_data old (eqb d 1) old.abs_or_delta_update old.feature_enabled old.feature_data, c)) (over (data_of old) (read (record { update_data = d; abs_or_delta_update = a; features = v }) c.at))
  unfolding data_of
  data_kept nd = rw (ne_eqb d 1 nd)
