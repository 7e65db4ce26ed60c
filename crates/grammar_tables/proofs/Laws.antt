-- The laws of the tables: each reading reads what its spelling spells; with the values that are all 0, and how many
-- bits each table can have.
-- Assumes nothing.
use Prim.Native.Nat.{ℕ, zero, suc, ◌+◌, ◌*◌, ◌≤◌, ◌<◌, pred}
use Prim.Native.String.{String}
use mathlib.Core.Path.{◌≡◌, refl, sym}
use mathlib.Core.Bool.{true, false, not, ◌&&◌}
use mathlib.Core.List.{[], ◌∷◌}
use native.Mathlib.Omega.{arith}
use lib.Dec.{eqb}
use borrow.Author.Tests.{eqb-true, eqb-false}
use Rattle.base_bits.specs.Refusal.{Name, the, item}
use Rattle.base_shared.specs.Choice.{pick}
use Rattle.base_syntax.specs.Syntax.{fld, flag, size, Ranged}
use Rattle.base_syntax.specs.Many.{Times, many_fields}
use Rattle.base_syntax.specs.Law.{Any, Reads}
use Rattle.base_syntax.proofs.Fields.{size_append, size_if, size_optional, zeros}
use Rattle.base_syntax.proofs.Laws.{field_reads, group_if_lem, take, take_in, take_if, take_by, branch_in, then, next_if, last, ends, respelt, done}
use Rattle.base_syntax.proofs.Many.{many_reads, many_size, many_zeros}
use Rattle.grammar_tables.specs.Tables.{ColorValues, color_fields, deep, sampled, srgb, SizeValues, size_fields, RenderValues, render_fields, RefValues, RefsValues, ref_fields, refs_fields, FoundValues, found_fields, DeltaValues, delta_fields, ref_delta, mode_delta, LoopFilterValues, loop_filter_fields, QuantizerValues, quantizer_fields, delta_q, ProbValues, prob_fields, probs_fields, FeatureValues, feature_fields, feature_bits, feature_signed, feature, features_fields, SegmentationValues, segmentation_fields, run_fields, TilesValues, tiles_fields, superblocks, span}
use Rattle.grammar_tables.specs.Reading.{read_color, no_color, read_size, no_size_values, read_render, read_ref, read_refs, no_refs, read_found, no_found, read_delta, no_delta, read_ref_deltas, read_mode_deltas, no_ref_deltas, no_mode_deltas, read_loop_filter, read_delta_q, read_quantizer, read_prob, no_prob, read_probs, no_probs, read_feature, read_features, no_features, read_segmentation, read_run, read_tiles}
use Rattle.grammar_tables.proofs.Limits.{most_le}

-- color_config()
pub color_reads : (profile : ℕ) → Reads Any (color_fields profile) (read_color profile)
unfolding color_fields read_color
color_reads profile =
    take_by (deep profile) _ _ (λ (v : ColorValues). v.ten_or_twelve_bit) λ d.
    take (λ (v : ColorValues). v.color_space) λ c.
    respelt (λ v k. rw k.1)
    (take_by (not (srgb c)) _ _ (λ (v : ColorValues). v.color_range) λ r.
    take_by (not (srgb c) && sampled profile) _ _ (λ (v : ColorValues). v.subsampling_x) λ x.
    take_by (not (srgb c) && sampled profile) _ _ (λ (v : ColorValues). v.subsampling_y) λ y.
    take_by (sampled profile) _ _ (λ (v : ColorValues). v.reserved_zero) λ z.
    done _ (search) (λ b k. rw (← k.1, ← k.0.1, ← k.0.0.1, ← k.0.0.0.1, ← k.0.0.0.0.1, ← k.0.0.0.0.0.1)))

pub color_nil : (profile : ℕ) → zeros (color_fields profile no_color) ≡ true
unfolding color_fields
color_nil profile = refl

pub color_size : (profile : ℕ) (v : ColorValues) → size (color_fields profile v) ≤ 8
unfolding color_fields
color_size profile v =
    let yuv = not (srgb v.color_space) in
    omega (arith, size_if (deep profile) 1, size_if yuv 1, size_if (yuv && sampled profile) 1, size_if (sampled profile) 1)

-- frame_size() and render_size()
pub size_reads : (x y : Name) → Reads Any (size_fields x y) (read_size x y)
unfolding size_fields read_size
size_reads x y =
    take (λ (v : SizeValues). v.width_minus_1) λ w.
    take (λ (v : SizeValues). v.height_minus_1) λ h.
    done _ (search) (λ b k. rw (← k.1, ← k.0.1))

pub size_nil : (x y : Name) → zeros (size_fields x y no_size_values) ≡ true
unfolding size_fields
size_nil x y = refl

pub render_reads : Reads Any render_fields read_render
unfolding render_fields read_render
render_reads =
    take (λ (v : RenderValues). v.render_and_frame_size_different) λ d.
    ends (next_if (flag d) (λ (v : RenderValues). flag v.render_and_frame_size_different) (λ v k. rw k.1) no_size_values (size_nil _ _) (λ (v : RenderValues). v.size) (size_reads _ _) λ z.
    done _ (search) (λ b k. rw (← k.1, ← k.0.1)))

pub size_size : (x y : Name) (v : SizeValues) → size (size_fields x y v) ≤ 32
unfolding size_fields
size_size x y v = omega arith

pub render_size : (v : RenderValues) → size (render_fields v) ≤ 33
unfolding render_fields
render_size v = omega (arith, size_optional (flag v.render_and_frame_size_different) (size_fields _ _ v.size) 32 (size_size (the "render_width_minus_1") (the "render_height_minus_1") v.size))

-- the references, and found_ref
ref_reads : (i : ℕ) → Reads Any (ref_fields i) (read_ref i)
unfolding ref_fields read_ref
ref_reads i =
    take (λ (v : RefValues). v.ref_frame_idx) λ n.
    take (λ (v : RefValues). v.ref_frame_sign_bias) λ b.
    done _ (search) (λ b k. rw (← k.1, ← k.0.1))

pub refs_reads : Reads Any refs_fields read_refs
unfolding refs_fields read_refs
refs_reads =
    then (λ (v : RefsValues). v.last) (ref_reads 0) λ l.
    then (λ (v : RefsValues). v.golden) (ref_reads 1) λ g.
    last (λ (v : RefsValues). v.altref) (ref_reads 2) (λ a. ((tt, refl), refl)) (λ a. refl) (λ b k. rw (← k.1, ← k.0.1))

pub refs_nil : zeros (refs_fields no_refs) ≡ true
unfolding refs_fields ref_fields
refs_nil = refl

pub refs_size : (v : RefsValues) → size (refs_fields v) ≤ 12
unfolding refs_fields ref_fields
refs_size v = omega arith

pub found_reads : Reads Any found_fields read_found
unfolding found_fields read_found
found_reads =
    take (λ (v : FoundValues). v.last) λ l.
    take_if (eqb l 0) (λ (v : FoundValues). eqb v.last 0) (λ v k. rw k.1) _ 1 (λ (v : FoundValues). v.golden) λ g.
    take_if (eqb l 0 && eqb g 0) (λ (v : FoundValues). eqb v.last 0 && eqb v.golden 0) (λ v k. rw (k.1, k.0.1)) _ 1 (λ (v : FoundValues). v.altref) λ a.
    done _ (search) (λ b k. rw (← k.1, ← k.0.1, ← k.0.0.1))

pub found_nil : zeros (found_fields no_found) ≡ true
unfolding found_fields
found_nil = refl

pub found_size_lem : (v : FoundValues) → size (found_fields v) ≤ 3
unfolding found_fields
found_size_lem v = omega (arith, size_if (eqb v.last 0) 1, size_if (eqb v.last 0 && eqb v.golden 0) 1)

-- a delta, under any names and over its width
pub delta_reads : (x y z : Name) (n : ℕ) → Reads Any (delta_fields x y z n) (read_delta x y z n)
unfolding delta_fields read_delta
delta_reads x y z n =
    take (λ (v : DeltaValues). v.coded) λ u.
    take_if (flag u) (λ (v : DeltaValues). flag v.coded) (λ v k. rw k.1) y n (λ (v : DeltaValues). v.magnitude) λ m.
    take_if (flag u) (λ (v : DeltaValues). flag v.coded) (λ v k. rw k.0.1) z 1 (λ (v : DeltaValues). v.sign) λ g.
    done _ (search) (λ b k. rw (← k.1, ← k.0.1, ← k.0.0.1))

delta_size : (x y z : Name) (n : ℕ) (v : DeltaValues) → size (delta_fields x y z n v) ≤ n + 2
unfolding delta_fields
delta_size x y z n v = omega (arith, size_if (flag v.coded) n, size_if (flag v.coded) 1)

delta_nil : (x y z : Name) (n : ℕ) → zeros (delta_fields x y z n no_delta) ≡ true
unfolding delta_fields
delta_nil x y z n = refl

-- loop_filter_params()
pub loop_filter_reads : Reads Any loop_filter_fields read_loop_filter
unfolding loop_filter_fields read_loop_filter read_ref_deltas read_mode_deltas
loop_filter_reads =
    take (λ (v : LoopFilterValues). v.level) λ l.
    take (λ (v : LoopFilterValues). v.sharpness) λ h.
    take (λ (v : LoopFilterValues). v.delta_enabled) λ e.
    take_if (flag e) (λ (v : LoopFilterValues). flag v.delta_enabled) (λ v k. rw k.1) (the "loop_filter_delta_update") 1 (λ (v : LoopFilterValues). v.delta_update) λ u.
    next_if (flag u) (λ (v : LoopFilterValues). flag v.delta_update) (λ v k. rw k.1) no_ref_deltas (many_zeros ref_delta no_delta (λ i. delta_nil _ _ _ 6) 0 4) (λ (v : LoopFilterValues). v.ref_deltas) (many_reads 0 4 (λ i. delta_reads _ _ _ 6)) λ r.
    ends (next_if (flag u) (λ (v : LoopFilterValues). flag v.delta_update) (λ v k. rw k.0.1) no_mode_deltas (many_zeros mode_delta no_delta (λ i. delta_nil _ _ _ 6) 0 2) (λ (v : LoopFilterValues). v.mode_deltas) (many_reads 0 2 (λ i. delta_reads _ _ _ 6)) λ m.
    done _ (search) (λ b k. rw (← k.1, ← k.0.1, ← k.0.0.1, ← k.0.0.0.1, ← k.0.0.0.0.1, ← k.0.0.0.0.0.1)))

pub loop_filter_size : (v : LoopFilterValues) → size (loop_filter_fields v) ≤ 59
unfolding loop_filter_fields
loop_filter_size v =
    let b = flag v.delta_update in
    let refs = many_size ref_delta 8 (λ i a. delta_size _ _ _ 6 a) 0 4 v.ref_deltas in
    let modes = many_size mode_delta 8 (λ i a. delta_size _ _ _ 6 a) 0 2 v.mode_deltas in
    rw size_append
    (omega (arith, size_if (flag v.delta_enabled) 1, size_optional b (many_fields ref_delta 0 4 v.ref_deltas) 32 refs, size_optional b (many_fields mode_delta 0 2 v.mode_deltas) 16 modes))

-- quantization_params()
delta_q_reads : (i : ℕ) → Reads Any (delta_q i) (read_delta_q i)
delta_q_reads i = delta_reads _ _ _ 4

pub quantizer_reads : Reads Any quantizer_fields read_quantizer
unfolding quantizer_fields read_quantizer
quantizer_reads =
    take (λ (v : QuantizerValues). v.base_q_idx) λ b.
    then (λ (v : QuantizerValues). v.delta_q_y_dc) (delta_q_reads 0) λ y.
    then (λ (v : QuantizerValues). v.delta_q_uv_dc) (delta_q_reads 1) λ d.
    last (λ (v : QuantizerValues). v.delta_q_uv_ac) (delta_q_reads 2) (λ a. (search)) (λ a. refl) (λ v k. rw (← k.1, ← k.0.1, ← k.0.0.1))

delta_q_size : (i : ℕ) (v : DeltaValues) → size (delta_q i v) ≤ 6
delta_q_size i v = delta_size _ _ _ 4 v

pub quantizer_size : (v : QuantizerValues) → size (quantizer_fields v) ≤ 26
unfolding quantizer_fields
quantizer_size v =
    simp size_append
    (omega (arith, delta_q_size 0 v.delta_q_y_dc, delta_q_size 1 v.delta_q_uv_dc, delta_q_size 2 v.delta_q_uv_ac))

-- segmentation_params()
pub prob_reads : (x y : Name) → Reads Any (prob_fields x y) (read_prob x y)
unfolding prob_fields read_prob
prob_reads x y =
    take (λ (v : ProbValues). v.coded) λ u.
    take_if (flag u) (λ (v : ProbValues). flag v.coded) (λ v k. rw k.1) y 8 (λ (v : ProbValues). v.prob) λ m.
    done _ (search) (λ b k. rw (← k.1, ← k.0.1))

prob_size : (x y : Name) (v : ProbValues) → size (prob_fields x y v) ≤ 9
unfolding prob_fields
prob_size x y v = omega (arith, size_if (flag v.coded) 8)

probs_reads : (x y : String) (n : ℕ) → Reads Any (probs_fields x y n) (read_probs x y n)
unfolding probs_fields read_probs
probs_reads x y n = many_reads 0 n (λ i. prob_reads (item x i) (item y i))

prob_nil : (x y : Name) → zeros (prob_fields x y no_prob) ≡ true
unfolding prob_fields
prob_nil x y = refl

probs_nil : (x y : String) (n : ℕ) → zeros (probs_fields x y n (no_probs n)) ≡ true
unfolding probs_fields
probs_nil x y n = many_zeros (λ i. prob_fields (item x i) (item y i)) no_prob (λ i. prob_nil (item x i) (item y i)) 0 n

probs_size : (x y : String) (n : ℕ) (v : Times n ProbValues) → size (probs_fields x y n v) ≤ n * 9
unfolding probs_fields
probs_size x y n v = many_size (λ i. prob_fields (item x i) (item y i)) 9 (λ i. prob_size (item x i) (item y i)) 0 n v

pub feature_reads : (i j : ℕ) → Reads Any (feature_fields i j) (read_feature i j)
unfolding feature_fields read_feature
feature_reads i j =
    take (λ (v : FeatureValues). v.feature_enabled) λ e.
    take_if (flag e) (λ (v : FeatureValues). flag v.feature_enabled) (λ v k. rw k.1) (feature "feature_value" i j) (feature_bits j) (λ (v : FeatureValues). v.feature_value) λ m.
    take_if (flag e && feature_signed j) (λ (v : FeatureValues). flag v.feature_enabled && feature_signed j) (λ v k. rw k.0.1) (feature "feature_sign" i j) 1 (λ (v : FeatureValues). v.feature_sign) λ g.
    done _ (search) (λ b k. rw (← k.1, ← k.0.1, ← k.0.0.1))

pub bits_small : (j : ℕ) → feature_bits j ≤ 8
unfolding feature_bits
bits_small zero = omega arith
bits_small (suc zero) = omega arith
bits_small (suc (suc zero)) = omega arith
bits_small (suc (suc (suc zero))) = omega arith
bits_small (suc (suc (suc (suc j)))) = omega arith

feature_size : (i j : ℕ) (v : FeatureValues) → size (feature_fields i j v) ≤ 10
unfolding feature_fields
feature_size i j v =
    let on = flag v.feature_enabled in
    omega (arith, bits_small j, size_if on (feature_bits j), size_if (on && feature_signed j) 1)

features_reads : Reads Any features_fields read_features
unfolding features_fields read_features
features_reads = many_reads 0 8 (λ i. many_reads 0 4 (feature_reads i))

features_nil : zeros (features_fields no_features) ≡ true
unfolding features_fields many_fields feature_fields
features_nil = refl

features_size : (v : Times 8 (Times 4 FeatureValues)) → size (features_fields v) ≤ 320
unfolding features_fields
features_size v = many_size (λ i. many_fields (feature_fields i) 0 4) 40 (λ i. many_size (feature_fields i) 10 (feature_size i) 0 4) 0 8 v

pub segmentation_reads : Reads Any segmentation_fields read_segmentation
unfolding segmentation_fields read_segmentation
segmentation_reads =
    take (λ (v : SegmentationValues). v.enabled) λ e.
    take_if (flag e) (λ (v : SegmentationValues). flag v.enabled) (λ v k. rw k.1) (the "segmentation_update_map") 1 (λ (v : SegmentationValues). v.update_map) λ m.
    next_if (flag m) (λ (v : SegmentationValues). flag v.update_map) (λ v k. rw k.1) (no_probs 7) (probs_nil _ _ 7) (λ (v : SegmentationValues). v.tree_probs) (probs_reads "tree_prob_coded" "segmentation_tree_probs" 7) λ t.
    take_if (flag m) (λ (v : SegmentationValues). flag v.update_map) (λ v k. rw k.0.1) (the "segmentation_temporal_update") 1 (λ (v : SegmentationValues). v.temporal_update) λ u.
    next_if (flag u) (λ (v : SegmentationValues). flag v.temporal_update) (λ v k. rw k.1) (no_probs 3) (probs_nil _ _ 3) (λ (v : SegmentationValues). v.pred_probs) (probs_reads "pred_prob_coded" "segmentation_pred_prob" 3) λ p.
    take_if (flag e) (λ (v : SegmentationValues). flag v.enabled) (λ v k. rw k.0.0.0.0.1) (the "segmentation_update_data") 1 (λ (v : SegmentationValues). v.update_data) λ d.
    take_if (flag d) (λ (v : SegmentationValues). flag v.update_data) (λ v k. rw k.1) (the "segmentation_abs_or_delta_update") 1 (λ (v : SegmentationValues). v.abs_or_delta_update) λ a.
    ends (next_if (flag d) (λ (v : SegmentationValues). flag v.update_data) (λ v k. rw k.0.1) no_features features_nil (λ (v : SegmentationValues). v.features) features_reads λ f.
    done _ (search) (λ b k. rw (← k.1, ← k.0.1, ← k.0.0.1, ← k.0.0.0.1, ← k.0.0.0.0.1, ← k.0.0.0.0.0.1, ← k.0.0.0.0.0.0.1, ← k.0.0.0.0.0.0.0.1)))

pub segmentation_size : (v : SegmentationValues) → size (segmentation_fields v) ≤ 415
unfolding segmentation_fields
segmentation_size v =
    let tree = probs_size "tree_prob_coded" "segmentation_tree_probs" 7 v.tree_probs in
    let pred = probs_size "pred_prob_coded" "segmentation_pred_prob" 3 v.pred_probs in
    simp size_append
    (omega (
      arith,
      size_if (flag v.enabled) 1,
      size_optional (flag v.update_map) (probs_fields _ _ 7 v.tree_probs) 63 tree,
      size_if (flag v.update_map) 1,
      size_optional (flag v.temporal_update) (probs_fields _ _ 3 v.pred_probs) 27 pred,
      size_if (flag v.update_data) 1,
      size_optional (flag v.update_data) (features_fields v.features) 320 (features_size v.features),
    ))

-- a run of bits
module _ (x : String) where
  -- the first bit of a run of k
  first : ℕ → ℕ
  first zero = 0
  first (suc k) = 1

  -- the same fields, by the first of them
  unrolled : (i n k : ℕ) → (fld (item x i) 1 (first k) ∷ pick (eqb (first k) 1) (run_fields x (i + 1) n (pred k)) []) ≡ run_fields x i (suc n) k
  unfolding run_fields first
  unrolled i n zero = refl
  unrolled i n (suc k) = refl

  -- what the first bit tells of the count
  none_if : (k a : ℕ) → first k ≡ a → eqb a 1 ≡ false → k ≡ 0
  unfolding first
  none_if zero a e f = refl
  none_if (suc k) a e f = absurd (eqb-false a 1 f (sym e))

  some_if : (k a : ℕ) → first k ≡ a → eqb a 1 ≡ true → k ≡ suc (pred k)
  unfolding first
  some_if zero a e f = absurd (omega (arith, eqb-true a 1 f))
  some_if (suc k) a e f = refl

  -- a bit that isn't 1 is 0
  other : (a : ℕ) → a < 2 → eqb a 1 ≡ false → 0 ≡ a
  other a l f = omega (arith, eqb-false a 1 f)

  pub run_reads : (i n : ℕ) → Reads Any (run_fields x i n) (read_run x 1 i n)
  unfolding read_run
  run_reads i zero = unfold run_fields in group_if_lem false 0 refl (field_reads {x = item x i} {n = 0})
  run_reads i (suc n) =
      respelt (λ k u. unrolled i n k)
      (take_in first λ a lt.
      branch_in (eqb a 1) (λ k. eqb (first k) 1) (λ k u. rw u.1)
      (λ e. last (λ k. pred k) (run_reads (i + 1) n) (λ m. (tt, unfold first in sym (eqb-true a 1 e))) (λ m. refl) (λ k u. some_if k a u.1 e))
      (λ e. done _ (tt, unfold first in other a lt e) (λ k u. none_if k a u.1 e)))

-- of a run in range no more than n bits are counted
pub run_few : (x : String) (i n k : ℕ) → Ranged (run_fields x i n k) → k ≤ n
unfolding run_fields
run_few x i zero k h = omega (arith, h.0.0)
run_few x i (suc n) zero h = omega arith
run_few x i (suc n) (suc k) h = omega (arith, run_few x (i + 1) n k h.1)

-- a run of at most n bits takes at most n
pub run_size : (x : String) (i n k : ℕ) → size (run_fields x i n k) ≤ n
unfolding run_fields
run_size x i zero k = omega arith
run_size x i (suc n) zero = omega arith
run_size x i (suc n) (suc k) = omega (arith, run_size x (i + 1) n k)

-- tile_info()
pub tiles_reads : (width : ℕ) → Reads Any (tiles_fields width) (read_tiles width)
unfolding tiles_fields read_tiles
tiles_reads width =
    then (λ (v : TilesValues). v.increment_tile_cols_log2) (run_reads _ 0 (span width)) λ k.
    take (λ (v : TilesValues). v.tile_rows_log2) λ r.
    take_if (flag r) (λ (v : TilesValues). flag v.tile_rows_log2) (λ v u. rw u.1) (the "increment_tile_rows_log2") 1 (λ (v : TilesValues). v.increment_tile_rows_log2) λ m.
    done _ (search) (λ b u. rw (← u.1, ← u.0.1, ← u.0.0.1))

pub tiles_size : (width : ℕ) (v : TilesValues) → size (tiles_fields width v) ≤ 34
unfolding tiles_fields
tiles_size width v =
    let cols = run_size "increment_tile_cols_log2" 0 (span width) v.increment_tile_cols_log2 in
    let rows = size_if (flag v.tile_rows_log2) 1 in
    rw size_append (omega (arith, most_le (superblocks width)))
