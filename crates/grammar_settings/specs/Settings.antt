-- The settings that a header's values leave, from the remembered ones: what isn't coded keeps its value. A frame that
-- is intra or error resilient is independent of
-- earlier ones: setup_past_independence() (VP9 7.2) resets the deltas and the features that it starts from.
-- Assumes nothing.
use Rattle.std.specs.Prelude.{ℕ, zero, suc, ◌+◌, Bool, false, ◌&&◌, List, [], ◌∷◌, ◌++◌, eqb, ℤ, pos, negsuc, neg_ℤ, nat_abs, get_or, replicate}
use Rattle.base_shared.specs.Choice.{pick}
use Rattle.base_syntax.specs.Syntax.{flag}
use Rattle.base_syntax.specs.Many.{Times, each_of}
use Rattle.base_loop_filter.specs.declared.LoopFilterParams.{LoopFilterParams}
use Rattle.base_quantization.specs.declared.QuantizationParams.{QuantizationParams}
use Rattle.base_segmentation.specs.declared.SegmentationParams.{SegmentationParams}
use Rattle.grammar_tables.specs.Tables.{DeltaValues, LoopFilterValues, QuantizerValues, ProbValues, FeatureValues, SegmentationValues}

-- the number of a magnitude and a sign, 0 being 0 with either sign
abbrev pub signed : ℕ → Bool → ℤ
signed m negative = pick negative (neg_ℤ (pos m)) (pos m)

unfoldable pub delta_value : DeltaValues → ℤ
delta_value d = signed d.magnitude (flag d.sign)

-- n deltas, from number i on
abbrev pub moved_from : ℕ → (n : ℕ) → Times n DeltaValues → List ℤ → List ℤ
moved_from i zero v old = []
moved_from i (suc n) v old = pick (flag v.0.coded) (delta_value v.0) (get_or old i (pos 0)) ∷ moved_from (i + 1) n v.1 old

unfoldable pub loop_filter_of : Bool → LoopFilterParams → LoopFilterValues → LoopFilterParams
loop_filter_of independent old v =
    let updated = flag v.delta_update in
    let refs = pick independent (pos 1 ∷ pos 0 ∷ negsuc 0 ∷ negsuc 0 ∷ []) old.ref_deltas in
    let modes = pick independent (replicate 2 (pos 0)) old.mode_deltas in
    record {
      level = v.level;
      sharpness = v.sharpness;
      delta_enabled = flag v.delta_enabled;
      delta_update = pick (flag v.delta_enabled) updated old.delta_update;
      update_ref_delta = pick updated (each_of (λ x. flag x.coded) 4 v.ref_deltas) old.update_ref_delta;
      ref_deltas = pick updated (moved_from 0 4 v.ref_deltas refs) refs;
      update_mode_delta = pick updated (each_of (λ x. flag x.coded) 2 v.mode_deltas) old.update_mode_delta;
      mode_deltas = pick updated (moved_from 0 2 v.mode_deltas modes) modes;
    }

-- a quantizer's delta that isn't coded is 0
unfoldable pub quantizer_of : QuantizerValues → QuantizationParams
quantizer_of v =
    record {
      base_q_idx = v.base_q_idx;
      delta_q_y_dc = delta_value v.delta_q_y_dc;
      delta_q_uv_dc = delta_value v.delta_q_uv_dc;
      delta_q_uv_ac = delta_value v.delta_q_uv_ac;
    }

-- VP9's Lossless: the base and the three deltas are 0
unfoldable pub lossless : QuantizationParams → Bool
lossless q =
    eqb q.base_q_idx 0
    && (eqb (nat_abs q.delta_q_y_dc) 0
    && (eqb (nat_abs q.delta_q_uv_dc) 0
    && eqb (nat_abs q.delta_q_uv_ac) 0))

-- a probability that isn't coded is 255
unfoldable pub prob_of : ProbValues → ℕ
prob_of v = pick (flag v.coded) v.prob 255

-- a feature's value is unsigned before its sign, and 0 where the feature is disabled
abbrev pub enabled_of : FeatureValues → Bool
enabled_of v = flag v.feature_enabled

abbrev pub data_value : FeatureValues → ℤ
data_value v = signed v.feature_value (flag v.feature_sign)

-- what f makes of each feature, segment after segment in one row
abbrev pub feature_row : {B : Type 0} → (FeatureValues → B) → (n : ℕ) → Times n (Times 4 FeatureValues) → List B
feature_row f zero v = []
feature_row f (suc n) v = each_of f 4 v.0 ++ feature_row f n v.1

-- an update of the map sets every probability, and one of the data every feature
unfoldable pub segmentation_of : Bool → SegmentationParams → SegmentationValues → SegmentationParams
segmentation_of independent old v =
    let mapped = flag v.update_map in
    let updated = flag v.update_data in
    record {
      enabled = flag v.enabled;
      update_map = mapped;
      tree_probs = pick mapped (each_of prob_of 7 v.tree_probs) old.tree_probs;
      pred_probs = pick mapped (each_of prob_of 3 v.pred_probs) old.pred_probs;
      temporal_update = pick mapped (flag v.temporal_update) old.temporal_update;
      update_data = updated;
      abs_or_delta_update = pick updated (flag v.abs_or_delta_update) (pick independent false old.abs_or_delta_update);
      feature_enabled = pick updated (feature_row enabled_of 8 v.features) (pick independent (replicate 32 false) old.feature_enabled);
      feature_data = pick updated (feature_row data_value 8 v.features) (pick independent (replicate 32 (pos 0)) old.feature_data);
    }
