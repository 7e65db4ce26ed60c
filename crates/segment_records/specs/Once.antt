-- The same records by what is made once for a frame: its tables, its own scales and its own levels. Private functions
-- cite these.
use Rattle.std.specs.Prelude.{ℕ, List, ℤ}
use Rattle.base_loop_filter.specs.declared.LoopFilterParams.{LoopFilterParams}
use Rattle.base_quantization.specs.declared.QuantizationParams.{QuantizationParams}
use Rattle.base_segmentation.specs.declared.SegmentationParams.{SegmentationParams}
use Rattle.base_shared.specs.Choice.{pick}
use Rattle.segment_clamp.specs.Clamp.{clamp_to, changed}
use Rattle.segment_grid.specs.Grid.{grid_of, row_of}
use Rattle.segment_levels.specs.Once.{frame_levels, levels_from}
use Rattle.segment_quant.specs.declared.Scales.{Scales}
use Rattle.segment_quant.specs.Quant.{scales_at}
use Rattle.segment_features.specs.declared.Features.{Features}
use Rattle.segment_records.specs.declared.Segmentation.{Segmentation}
use Rattle.segment_features.specs.Features.{features_of}
use Rattle.segment_records.specs.Entries.{entries_with}
use Rattle.segment_records.specs.Segmentation.{segment_with}

-- the scales by an active feature, or the frame's own
unfoldable pub scales_from : List ℤ → List ℤ → QuantizationParams → Scales → Features → Scales
scales_from dc ac q frame f =
    pick f.quantizer_active (scales_at dc ac q (clamp_to 255 (changed q.base_q_idx f.absolute f.quantizer))) frame

-- a record's levels, by the frame's own
unfoldable pub levels_after : LoopFilterParams → List (List ℕ) → Features → List ℕ → List ℕ
levels_after lf frame f old = row_of (levels_from lf frame f.level_active f.absolute f.level (grid_of old))

unfoldable pub renewed : List ℤ → List ℤ → LoopFilterParams → QuantizationParams → Scales → List (List ℕ) → Features → Segmentation → Segmentation
renewed dc ac lf q scales grid f old =
    segment_with (levels_after lf grid f old.lvl_lookup) (entries_with (scales_from dc ac q scales f) f)

unfoldable pub segment_at : List ℤ → List ℤ → LoopFilterParams → QuantizationParams → SegmentationParams → ℕ → Segmentation → Segmentation
segment_at dc ac lf q s i = renewed dc ac lf q (scales_at dc ac q q.base_q_idx) (frame_levels lf) (features_of s i)
