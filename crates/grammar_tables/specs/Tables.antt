-- The tables that uncompressed_header() calls, in VP9's order (6.2.2 to 6.2.14): of each, its field values by VP9's
-- names, and how they are spelled.
-- Assumes nothing.
use Rattle.std.specs.Prelude.{ℕ, zero, suc, ◌+◌, ◌*◌, ◌-◌, ◌/◌, ◌%◌, ◌^◌, Bool, true, false, not, ◌&&◌, List, [], ◌∷◌, eqb, leb, ltb, get_or}
use Prim.Native.String.{String}
use Rattle.base_bits.specs.Refusal.{Name, the, item}
use Rattle.base_shared.specs.Choice.{pick}
use Rattle.base_syntax.specs.Syntax.{Field, fld, flag, fld_if, optional, ◌then◌}
use Rattle.base_syntax.specs.Many.{Times, many_fields}
use Rattle.base_shared.specs.Lists.{first}

-- color_config() (6.2.2), for a profile: profiles 2 and 3 code the depth, and 1 and 3 the subsampling, unless the
-- colour space is RGB, which has no range either
pub record ColorValues : Type 0 where
  pub ten_or_twelve_bit : ℕ
  pub color_space : ℕ
  pub color_range : ℕ
  pub subsampling_x : ℕ
  pub subsampling_y : ℕ
  pub reserved_zero : ℕ

abbrev pub deep : ℕ → Bool
deep profile = leb 2 profile

abbrev pub sampled : ℕ → Bool
sampled profile = eqb (profile % 2) 1

abbrev pub srgb : ℕ → Bool
srgb space = eqb space 7

unfoldable pub color_fields : ℕ → ColorValues → List Field
color_fields profile v =
    let yuv = not (srgb v.color_space) in
    fld_if (deep profile) (the "ten_or_twelve_bit") 1 v.ten_or_twelve_bit
    ∷ fld (the "color_space") 3 v.color_space
    ∷ fld_if yuv (the "color_range") 1 v.color_range
    ∷ fld_if (yuv && sampled profile) (the "subsampling_x") 1 v.subsampling_x
    ∷ fld_if (yuv && sampled profile) (the "subsampling_y") 1 v.subsampling_y
    ∷ fld_if (sampled profile) (the "reserved_zero") 1 v.reserved_zero
    ∷ []

-- frame_size() (6.2.3) and the two numbers of render_size(), under the names x and y
pub record SizeValues : Type 0 where
  pub width_minus_1 : ℕ
  pub height_minus_1 : ℕ

unfoldable pub size_fields : Name → Name → SizeValues → List Field
size_fields x y v = fld x 16 v.width_minus_1 ∷ fld y 16 v.height_minus_1 ∷ []

-- render_size() (6.2.4)
pub record RenderValues : Type 0 where
  pub render_and_frame_size_different : ℕ
  pub size : SizeValues

unfoldable pub render_fields : RenderValues → List Field
render_fields v =
    fld (the "render_and_frame_size_different") 1 v.render_and_frame_size_different
    ∷ optional (flag v.render_and_frame_size_different) (size_fields (the "render_width_minus_1") (the "render_height_minus_1") v.size)

-- the three references of an inter frame (6.2): the slot of each, and its sign bias
pub record RefValues : Type 0 where
  pub ref_frame_idx : ℕ
  pub ref_frame_sign_bias : ℕ

pub record RefsValues : Type 0 where
  pub last : RefValues
  pub golden : RefValues
  pub altref : RefValues

unfoldable pub ref_fields : ℕ → RefValues → List Field
ref_fields i v = fld (item "ref_frame_idx" i) 3 v.ref_frame_idx ∷ fld (item "ref_frame_sign_bias" i) 1 v.ref_frame_sign_bias ∷ []

unfoldable pub refs_fields : RefsValues → List Field
refs_fields v = ref_fields 0 v.last then ref_fields 1 v.golden then ref_fields 2 v.altref

-- the flags of frame_size_with_refs() (6.2.5), up to the first that is 1
pub record FoundValues : Type 0 where
  pub last : ℕ
  pub golden : ℕ
  pub altref : ℕ

unfoldable pub found_fields : FoundValues → List Field
found_fields v =
    fld (item "found_ref" 0) 1 v.last
    ∷ fld_if (eqb v.last 0) (item "found_ref" 1) 1 v.golden
    ∷ fld_if (eqb v.last 0 && eqb v.golden 0) (item "found_ref" 2) 1 v.altref
    ∷ []

-- the number of the reference whose flag is 1; 3 where none is
unfoldable pub found_at : FoundValues → ℕ
found_at v = pick (eqb v.last 0) (pick (eqb v.golden 0) (pick (eqb v.altref 0) 3 2) 1) 0

-- a delta behind a flag, as read_delta_q() (6.2.10) and loop_filter_params() have it: the flag x and, where it is 1,
-- the magnitude y of n bits and the sign z
pub record DeltaValues : Type 0 where
  pub coded : ℕ
  pub magnitude : ℕ
  pub sign : ℕ

unfoldable pub delta_fields : Name → Name → Name → ℕ → DeltaValues → List Field
delta_fields x y z n v = fld x 1 v.coded ∷ fld_if (flag v.coded) y n v.magnitude ∷ fld_if (flag v.coded) z 1 v.sign ∷ []

-- loop_filter_params() (6.2.8), with the deltas of the four references and of the two modes
pub record LoopFilterValues : Type 0 where
  pub level : ℕ
  pub sharpness : ℕ
  pub delta_enabled : ℕ
  pub delta_update : ℕ
  pub ref_deltas : Times 4 DeltaValues
  pub mode_deltas : Times 2 DeltaValues

abbrev pub ref_delta : ℕ → DeltaValues → List Field
ref_delta i = delta_fields (item "update_ref_delta" i) (item "loop_filter_ref_deltas" i) (item "loop_filter_ref_deltas_sign" i) 6

abbrev pub mode_delta : ℕ → DeltaValues → List Field
mode_delta i = delta_fields (item "update_mode_delta" i) (item "loop_filter_mode_deltas" i) (item "loop_filter_mode_deltas_sign" i) 6

unfoldable pub loop_filter_fields : LoopFilterValues → List Field
loop_filter_fields v =
    fld (the "loop_filter_level") 6 v.level
    ∷ fld (the "loop_filter_sharpness") 3 v.sharpness
    ∷ fld (the "loop_filter_delta_enabled") 1 v.delta_enabled
    ∷ fld_if (flag v.delta_enabled) (the "loop_filter_delta_update") 1 v.delta_update
    ∷ optional (flag v.delta_update) (many_fields ref_delta 0 4 v.ref_deltas)
    then optional (flag v.delta_update) (many_fields mode_delta 0 2 v.mode_deltas)

-- quantization_params() (6.2.9)
pub record QuantizerValues : Type 0 where
  pub base_q_idx : ℕ
  pub delta_q_y_dc : DeltaValues
  pub delta_q_uv_dc : DeltaValues
  pub delta_q_uv_ac : DeltaValues

abbrev pub delta_q : ℕ → DeltaValues → List Field
delta_q i = delta_fields (item "delta_coded" i) (item "delta_q" i) (item "delta_q_sign" i) 4

unfoldable pub quantizer_fields : QuantizerValues → List Field
quantizer_fields v =
    fld (the "base_q_idx") 8 v.base_q_idx
    ∷ delta_q 0 v.delta_q_y_dc then delta_q 1 v.delta_q_uv_dc then delta_q 2 v.delta_q_uv_ac

-- read_prob() (6.2.12): n probabilities y, each behind its flag x
pub record ProbValues : Type 0 where
  pub coded : ℕ
  pub prob : ℕ

unfoldable pub prob_fields : Name → Name → ProbValues → List Field
prob_fields x y v = fld x 1 v.coded ∷ fld_if (flag v.coded) y 8 v.prob ∷ []

unfoldable pub probs_fields : String → String → (n : ℕ) → Times n ProbValues → List Field
probs_fields x y n = many_fields (λ i. prob_fields (item x i) (item y i)) 0 n

-- feature j of segment i in segmentation_params() (6.2.11); segmentation_feature_bits and segmentation_feature_signed
-- of quantizer, filter level, reference and skip
pub record FeatureValues : Type 0 where
  pub feature_enabled : ℕ
  pub feature_value : ℕ
  pub feature_sign : ℕ

unfoldable pub feature_bits : ℕ → ℕ
feature_bits j = get_or (8 ∷ 6 ∷ 2 ∷ 0 ∷ []) j 0

unfoldable pub feature_signed : ℕ → Bool
feature_signed j = get_or (true ∷ true ∷ false ∷ false ∷ []) j false

abbrev pub feature : String → ℕ → ℕ → Name
feature x i j = record { of = x; nth = i ∷ j ∷ [] }

unfoldable pub feature_fields : ℕ → ℕ → FeatureValues → List Field
feature_fields i j v =
    fld (feature "feature_enabled" i j) 1 v.feature_enabled
    ∷ fld_if (flag v.feature_enabled) (feature "feature_value" i j) (feature_bits j) v.feature_value
    ∷ fld_if (flag v.feature_enabled && feature_signed j) (feature "feature_sign" i j) 1 v.feature_sign
    ∷ []

-- segmentation_params() (6.2.11)
pub record SegmentationValues : Type 0 where
  pub enabled : ℕ
  pub update_map : ℕ
  pub tree_probs : Times 7 ProbValues
  pub temporal_update : ℕ
  pub pred_probs : Times 3 ProbValues
  pub update_data : ℕ
  pub abs_or_delta_update : ℕ
  pub features : Times 8 (Times 4 FeatureValues)

unfoldable pub features_fields : Times 8 (Times 4 FeatureValues) → List Field
features_fields = many_fields (λ i. many_fields (feature_fields i) 0 4) 0 8

unfoldable pub segmentation_fields : SegmentationValues → List Field
segmentation_fields v =
    fld (the "segmentation_enabled") 1 v.enabled
    ∷ fld_if (flag v.enabled) (the "segmentation_update_map") 1 v.update_map
    ∷ optional (flag v.update_map) (probs_fields "tree_prob_coded" "segmentation_tree_probs" 7 v.tree_probs)
    then fld_if (flag v.update_map) (the "segmentation_temporal_update") 1 v.temporal_update
    ∷ optional (flag v.temporal_update) (probs_fields "pred_prob_coded" "segmentation_pred_prob" 3 v.pred_probs)
    then fld_if (flag v.enabled) (the "segmentation_update_data") 1 v.update_data
    ∷ fld_if (flag v.update_data) (the "segmentation_abs_or_delta_update") 1 v.abs_or_delta_update
    ∷ optional (flag v.update_data) (features_fields v.features)

-- a run of k bits 1 in a row, the first of them number i of the name x, which a 0 ends unless there are n; past n of
-- them there are no bits, and so k is 0
unfoldable pub run_fields : String → ℕ → ℕ → ℕ → List Field
run_fields x i zero k = fld (item x i) 0 k ∷ []
run_fields x i (suc n) zero = fld (item x i) 1 0 ∷ []
run_fields x i (suc n) (suc k) = fld (item x i) 1 1 ∷ run_fields x (i + 1) n k

-- calc_min_log2_tile_cols() and calc_max_log2_tile_cols() (6.2.14), for a width in superblocks of 64: the first k
-- with 64 x 2^k >= w, and the first with w / 2^(k + 1) < 4.
-- A width is below 2^32, so that 32 numbers are enough to try
abbrev pub superblocks : ℕ → ℕ
superblocks width = (width + 63) / 64

unfoldable pub least : ℕ → ℕ
least w = first (λ k. leb w (64 * 2 ^ k)) 0 32

unfoldable pub most : ℕ → ℕ
most w = first (λ k. ltb (w / 2 ^ suc k) 4) 0 32

-- tile_info() (6.2.13), for a frame's width; of increment_tile_cols_log2, how many are 1
pub record TilesValues : Type 0 where
  pub increment_tile_cols_log2 : ℕ
  pub tile_rows_log2 : ℕ
  pub increment_tile_rows_log2 : ℕ

abbrev pub span : ℕ → ℕ
span width = most (superblocks width) - least (superblocks width)

unfoldable pub tiles_fields : ℕ → TilesValues → List Field
tiles_fields width v =
    run_fields "increment_tile_cols_log2" 0 (span width) v.increment_tile_cols_log2
    then fld (the "tile_rows_log2") 1 v.tile_rows_log2
    ∷ fld_if (flag v.tile_rows_log2) (the "increment_tile_rows_log2") 1 v.increment_tile_rows_log2
    ∷ []
