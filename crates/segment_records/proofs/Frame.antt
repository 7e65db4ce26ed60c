-- What is made once for a frame gives the same records.
use mathlib.Core.Path.{◌≡◌, refl}
use mathlib.Core.Bool.{Bool, true, false}
use mathlib.Core.List.{List}
use Prim.Native.Nat.{ℕ}
use lib.IntN.{ℤ}
use Rattle.base_enums.specs.declared.BitDepth.{BitDepth}
use Rattle.base_types.specs.declared.header.Header.{Header}
use Rattle.base_quantization.specs.declared.QuantizationParams.{QuantizationParams}
use Rattle.base_shared.specs.Choice.{pick}
use Rattle.segment_clamp.specs.Clamp.{clamp_to, changed}
use Rattle.segment_tables.specs.Tables.{dc_table, ac_table}
use Rattle.segment_grid.specs.Grid.{grid_of}
use Rattle.segment_levels.proofs.Frame.{same_levels}
use Rattle.segment_quant.specs.Quant.{qindex_of, scales_at}
use Rattle.segment_features.specs.declared.Features.{Features}
use Rattle.segment_records.specs.declared.Segmentation.{Segmentation}
use Rattle.base_shared.specs.Lists.{each}
use Rattle.segment_records.specs.Entries.{index, entries_of}
use Rattle.segment_features.specs.Features.{features_of}
use Rattle.segment_records.specs.Once.{scales_from, levels_after, renewed, segment_at}
use Rattle.segment_records.specs.Segmentation.{segment_of}
use Rattle.base_shared.proofs.Each.{each_same}

-- a feature that is not active leaves the frame's index
same_scales : (dc ac : List ℤ) (q : QuantizationParams) (f : Features)
    → scales_from dc ac q (scales_at dc ac q q.base_q_idx) f ≡ scales_at dc ac q (index q f)
unfolding scales_from index qindex_of
same_scales dc ac q f = go f.quantizer_active
  where
    b : ℕ
    b = clamp_to 255 (changed q.base_q_idx f.absolute f.quantizer)

    go : (on : Bool) → pick on (scales_at dc ac q b) (scales_at dc ac q q.base_q_idx) ≡ scales_at dc ac q (pick on b q.base_q_idx)
    go true = refl
    go false = refl

same_segment : (h : Header) (i : ℕ) (old : Segmentation)
    → segment_at (dc_table h.bit_depth) (ac_table h.bit_depth) h.lf h.quant h.seg i old ≡ segment_of h i old
unfolding segment_at renewed levels_after segment_of entries_of
same_segment h i old =
    let f = features_of h.seg i in
    rw (
      same_levels h.lf f.level_active f.absolute f.level (grid_of old.lvl_lookup),
      same_scales (dc_table h.bit_depth) (ac_table h.bit_depth) h.quant f,
    )

-- by the tables of the header's depth, all records are those of the header
pub by_depth : (h : Header) (old : List Segmentation) (depth : BitDepth) {dc ac : List ℤ} {r : List Segmentation}
    → h.bit_depth ≡ depth
    → dc ≡ dc_table depth
    → ac ≡ ac_table depth
    → r ≡ each (segment_at dc ac h.lf h.quant h.seg) 0 old
    → r ≡ each (segment_of h) 0 old
by_depth h old depth e p q g = rw (g, p, q, ← e) (each_same (same_segment h) 0 old)
