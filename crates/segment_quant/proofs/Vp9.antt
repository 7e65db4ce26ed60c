-- The definitions in Quant say what VP9 says.
use mathlib.Core.Path.{◌≡◌, refl, ◌∙◌}
use mathlib.Core.Bool.{Bool, true, false}
use mathlib.Core.List.{List}
use Prim.Native.Nat.{ℕ, ◌<◌}
use lib.IntN.{ℤ, pos, nat_abs, ◌+ℤ◌, +ℤ_idr}
use Rattle.base_enums.specs.declared.BitDepth.{BitDepth}
use Rattle.base_quantization.specs.declared.QuantizationParams.{QuantizationParams}
use Rattle.base_segmentation.specs.declared.SegmentationParams.{SegmentationParams}
use Rattle.base_segmentation.proofs.Vp9.{alt_q}
use Rattle.base_segmentation.specs.Vp9.{SEG_LVL_ALT_Q, «FeatureData», seg_feature_active}
use Rattle.base_shared.specs.Choice.{pick}
use Rattle.segment_clamp.specs.Vp9.{clip3}
use Rattle.segment_clamp.proofs.Vp9.{clamp_is_clip3}
use Rattle.segment_tables.specs.Tables.{dc_table, ac_table, entry}
use Rattle.segment_quant.specs.declared.Scales.{Scales}
use Rattle.segment_quant.specs.Quant.{qindex_of, qindex, scale_at, dc_quant, ac_quant, scales_at, scales_of}
use Rattle.segment_quant.specs.Vp9.{dc_q, ac_q, get_qindex, quant_of}

-- the index by what the feature says
qindex_of_lem : (base : ℕ) (active absolute : Bool) (d : ℤ)
    → pos (qindex_of base active absolute d) ≡ pick active (clip3 (pos 0) (pos 255) (pick absolute d (pos base +ℤ d))) (pos base)
unfolding qindex_of
qindex_of_lem base false absolute d = refl
qindex_of_lem base true true d = clamp_is_clip3 255 d
qindex_of_lem base true false d = clamp_is_clip3 255 (pos base +ℤ d)

scale_at_lem : (table : List ℤ) (b : ℤ) → scale_at table b ≡ entry table (nat_abs (clip3 (pos 0) (pos 255) b))
unfolding scale_at
scale_at_lem table b = rw (← clamp_is_clip3 255 b)

abbrev scales : ℤ → ℤ → ℤ → ℤ → Scales
scales a b c d = record { luma_ac = a; luma_dc = b; chroma_ac = c; chroma_dc = d }

same : {a a' b b' c c' d d' : ℤ} → a ≡ a' → b ≡ b' → c ≡ c' → d ≡ d' → scales a b c d ≡ scales a' b' c' d'
same e f g h = rw (e, f, g, h)

module _ (depth : BitDepth) (q : QuantizationParams) (s : SegmentationParams) (i : ℕ) (h : i < 8) where
  pub qindex_is : pos (qindex q s i) ≡ get_qindex q s i
  unfolding qindex get_qindex
  qindex_is =
      let (e, f) = alt_q s i h in
      rw (e, f) (qindex_of_lem _ (seg_feature_active s i SEG_LVL_ALT_Q) s.abs_or_delta_update («FeatureData» s i SEG_LVL_ALT_Q))

  pub at_qindex : scales_at (dc_table depth) (ac_table depth) q (qindex q s i) ≡ quant_of depth q s i
  unfolding scales_at quant_of dc_q ac_q
  at_qindex = rw (← qindex_is) (same (scale_at_lem _ _ ∙ rw +ℤ_idr) (scale_at_lem _ _) (scale_at_lem _ _) (scale_at_lem _ _))

  pub scales_are_quant : scales_of depth q s i ≡ quant_of depth q s i
  unfolding scales_at scales_of dc_quant ac_quant
  scales_are_quant = at_qindex
