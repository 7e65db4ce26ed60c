-- The records that the code makes are those of the values.
-- Assumes nothing.
use Prim.Native.Nat.{ℕ}
use mathlib.Core.Path.{◌≡◌, refl}
use mathlib.Core.Bool.{Bool, true, false}
use lib.Dec.{eqb}
use Rattle.std.specs.Prelude.{Result, Ok}
use Rattle.base_bits.specs.declared.Cursor.{Cursor}
use Rattle.base_bits.specs.declared.Refusal.{Refusal}
use Rattle.base_syntax.specs.Syntax.{flag}
use Rattle.base_syntax.specs.Reader.{read, over}
use Rattle.base_segmentation.specs.declared.SegmentationParams.{SegmentationParams}
use Rattle.part_segment_map.specs.Map.{map_of, MapValues, no_map}
use Rattle.part_segment_data.specs.Data.{DataValues, no_data, data_of}
use Rattle.part_segment_data.specs.Features.{feature_rows}
use Rattle.part_segmentation.specs.Segmentation.{switched}
use Rattle.grammar_settings.specs.Settings.{segmentation_of}
use Rattle.part_segmentation.proofs.Parts.{flat_segmentation}

-- the settings where segmentation is off, and where both parts were read
pub off_read : (old : SegmentationParams) (e : ℕ) (c : Cursor)
    → ◌≡◌ {A = Result (SegmentationParams × Cursor) Refusal} (Ok (switched old (eqb e 1), c)) (over (segmentation_of false old) (read (flat_segmentation e no_map no_data) c.at))
unfolding segmentation_of
off_read old e c = refl

both : (old : SegmentationParams) (e : ℕ) (map : MapValues) (features : DataValues) (m d : Bool) → flag map.update_map ≡ m → flag features.update_data ≡ d
    → data_of (map_of (switched old (flag e)) map) features ≡ segmentation_of false old (flat_segmentation e map features)
unfolding segmentation_of map_of data_of feature_rows
both old e map features true true em ed = rw (em, ed)
both old e map features true false em ed = rw (em, ed)
both old e map features false true em ed = rw (em, ed)
both old e map features false false em ed = rw (em, ed)

pub parts_read : (old seg : SegmentationParams) (e p : ℕ) (m : MapValues) (d : DataValues) → seg ≡ map_of (switched old (eqb e 1)) m
    → over (data_of seg) (read d p) ≡ over (segmentation_of false old) (read (flat_segmentation e m d) p)
parts_read old seg e p m d es = rw (es, both old e m d _ _ refl refl)
