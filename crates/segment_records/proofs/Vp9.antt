-- Each of the eight records is what VP9 says, and no other record is.
use mathlib.Core.Path.{◌≡◌, refl, sym, ap, ◌∙◌}
use mathlib.Core.List.{List}
use Prim.Native.Nat.{ℕ, ◌+◌, ◌<◌}
use native.Mathlib.Omega.{arith}
use lib.IntN.{pos, nat_abs}
use lib.ListN.{length, get_or}
use Rattle.base_types.specs.declared.header.Header.{Header}
use Rattle.base_shared.specs.Lists.{each}
use Rattle.base_shared.proofs.Each.{each_at}
use Rattle.segment_grid.specs.Grid.{grid_of, row_of}
use Rattle.segment_grid.specs.Vp9.{Reference, Mode, in_row}
use Rattle.segment_grid.proofs.Vp9.{row_at, grid_at, row_same}
use Rattle.segment_levels.specs.Vp9.{filter_level}
use Rattle.segment_levels.proofs.Vp9.{level_is}
use Rattle.segment_quant.specs.Vp9.{quant_of}
use Rattle.segment_quant.proofs.Vp9.{scales_are_quant}
use Rattle.segment_features.specs.Vp9.{features_said}
use Rattle.segment_features.proofs.Vp9.{features_are}
use Rattle.segment_records.specs.declared.Segmentation.{Segmentation}
use Rattle.segment_records.specs.Entries.{entries_of, entries_with}
use Rattle.segment_records.specs.Segmentation.{default_segment, segment_with, grid_after, segment_of}
use Rattle.segment_records.specs.Vp9.{level_of, After}
use Rattle.segment_records.proofs.Halves.{entries_in, scales_are, entries_by_header, levels_by_levels}

module _ (h : Header) (i : ℕ) (old : Segmentation) (b : i < 8) where
  level_at_lem : (r : Reference) (m : Mode)
      → pos (in_row (segment_of h i old).lvl_lookup r m) ≡ filter_level h.lf (level_of h i) r m (pos (in_row old.lvl_lookup r m))
  unfolding features_said
  level_at_lem r m =
      let f = features_said h.seg i in
      rw (
        levels_by_levels h i old,
        features_are h.seg i b,
        row_at (grid_after h.lf f (grid_of old.lvl_lookup)) r m,
        ← grid_at old.lvl_lookup r m,
      )
      (level_is h.lf f.level_active f.absolute f.level (grid_of old.lvl_lookup) r m)

  scales_at_lem : (entries_in (segment_of h i old)).scales ≡ quant_of h.bit_depth h.quant h.seg i
  scales_at_lem =
      ap (λ e. e.scales) (entries_by_header h i old)
      ∙ scales_are h.bit_depth h.quant h.seg i
      ∙ scales_are_quant h.bit_depth h.quant h.seg i b

  pub segment_is : After h i old (segment_of h i old)
  unfolding segment_of segment_with entries_of entries_with row_of features_said
  segment_is =
      let said = features_are h.seg i b in
      record {
        levels = refl;
        level = level_at_lem;
        luma_ac = ap (λ s. s.luma_ac) scales_at_lem;
        luma_dc = ap (λ s. s.luma_dc) scales_at_lem;
        chroma_ac = ap (λ s. s.chroma_ac) scales_at_lem;
        chroma_dc = ap (λ s. s.chroma_dc) scales_at_lem;
        reference_enabled = ap (λ f. f.reference_enabled) said;
        reference = ap (λ f. f.reference) said;
        skip_enabled = ap (λ f. f.skip_enabled) said;
      }

-- the records that `update_segmentation` promises
pub each_segment_is : (h : Header) (old : List Segmentation) (i : ℕ) → length old ≡ 8 → i < 8
    → After h i (get_or old i default_segment) (get_or (each (segment_of h) 0 old) i default_segment)
each_segment_is h old i e b =
    let z : 0 + i ≡ i = omega arith in
    rw (each_at (segment_of h) 0 old i default_segment (omega arith), z) (segment_is h i (get_or old i default_segment) b)

-- no two records are both so
pub one_after : (h : Header) (i : ℕ) (old a b : Segmentation) → After h i old a → After h i old b → a ≡ b
unfolding segment_with
one_after h i old a b p q = same
  where
    row : a.lvl_lookup ≡ b.lvl_lookup
    row = row_same _ _ p.levels q.levels (λ r m. ap nat_abs (p.level r m ∙ sym (q.level r m)))

    same : segment_with a.lvl_lookup (entries_in a) ≡ segment_with b.lvl_lookup (entries_in b)
    same =
        rw (
          row,
          p.luma_ac ∙ sym q.luma_ac,
          p.luma_dc ∙ sym q.luma_dc,
          p.chroma_ac ∙ sym q.chroma_ac,
          p.chroma_dc ∙ sym q.chroma_dc,
          p.reference_enabled ∙ sym q.reference_enabled,
          p.reference ∙ sym q.reference,
          p.skip_enabled ∙ sym q.skip_enabled,
        )
