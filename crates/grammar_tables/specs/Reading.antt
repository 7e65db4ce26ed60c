-- Readings of the tables, which the code is proved equal to part by part. Nothing here needs to be believed: the laws
-- in proofs/ tie each to its spelling.
-- Of a table that may be absent, the values that are all 0.
-- Assumes nothing.
use Rattle.std.specs.Prelude.{ℕ, zero, suc, ◌+◌, ◌*◌, not, ◌&&◌, ◌||◌, List, eqb, ltb}
use Prim.Native.String.{String}
use Rattle.base_bits.specs.Refusal.{Name, the, item, frame_marker, sync_code}
use Rattle.base_shared.specs.Choice.{pick}
use Rattle.base_syntax.specs.Syntax.{flag}
use Rattle.base_syntax.specs.Reader.{Reader, give, ◌>>=◌, field, must, group_if, field_if}
use Rattle.base_syntax.specs.Many.{Times, times, many}
use Rattle.base_size.specs.declared.FrameSize.{FrameSize}
use Rattle.grammar_tables.specs.Tables.{ColorValues, deep, sampled, srgb, SizeValues, RenderValues, RefValues, RefsValues, FoundValues, found_at, DeltaValues, LoopFilterValues, QuantizerValues, ProbValues, FeatureValues, feature_bits, feature_signed, feature, SegmentationValues, TilesValues, span}
use Rattle.grammar_tables.specs.Header.{FrameValues, HeaderValues, size_from}

-- color_config()
abbrev pub no_color : ColorValues
no_color = record { ten_or_twelve_bit = 0; color_space = 0; color_range = 0; subsampling_x = 0; subsampling_y = 0; reserved_zero = 0 }

unfoldable pub read_color : ℕ → Reader ColorValues
read_color profile = do
  d ← field_if (deep profile) (the "ten_or_twelve_bit") 1
  c ← field (the "color_space") 3
  r ← field_if (not (srgb c)) (the "color_range") 1
  x ← field_if (not (srgb c) && sampled profile) (the "subsampling_x") 1
  y ← field_if (not (srgb c) && sampled profile) (the "subsampling_y") 1
  z ← field_if (sampled profile) (the "reserved_zero") 1
  give (record { ten_or_twelve_bit = d; color_space = c; color_range = r; subsampling_x = x; subsampling_y = y; reserved_zero = z })

-- frame_size() and render_size()
abbrev pub no_size_values : SizeValues
no_size_values = record { width_minus_1 = 0; height_minus_1 = 0 }

abbrev pub no_render : RenderValues
no_render = record { render_and_frame_size_different = 0; size = no_size_values }

unfoldable pub read_size : Name → Name → Reader SizeValues
read_size x y = do
  w ← field x 16
  h ← field y 16
  give (record { width_minus_1 = w; height_minus_1 = h })

abbrev pub read_frame_size : Reader SizeValues
read_frame_size = read_size (the "frame_width_minus_1") (the "frame_height_minus_1")

unfoldable pub read_render : Reader RenderValues
read_render = do
  d ← field (the "render_and_frame_size_different") 1
  z ← group_if (flag d) no_size_values (read_size (the "render_width_minus_1") (the "render_height_minus_1"))
  give (record { render_and_frame_size_different = d; size = z })

-- the references, and found_ref
abbrev pub no_ref_values : RefValues
no_ref_values = record { ref_frame_idx = 0; ref_frame_sign_bias = 0 }

abbrev pub no_refs : RefsValues
no_refs = record { last = no_ref_values; golden = no_ref_values; altref = no_ref_values }

abbrev pub no_found : FoundValues
no_found = record { last = 0; golden = 0; altref = 0 }

unfoldable pub read_ref : ℕ → Reader RefValues
read_ref i = do
  n ← field (item "ref_frame_idx" i) 3
  b ← field (item "ref_frame_sign_bias" i) 1
  give (record { ref_frame_idx = n; ref_frame_sign_bias = b })

unfoldable pub read_refs : Reader RefsValues
read_refs = do
  l ← read_ref 0
  g ← read_ref 1
  a ← read_ref 2
  give (record { last = l; golden = g; altref = a })

unfoldable pub read_found : Reader FoundValues
read_found = do
  l ← field (item "found_ref" 0) 1
  g ← field_if (eqb l 0) (item "found_ref" 1) 1
  a ← field_if (eqb l 0 && eqb g 0) (item "found_ref" 2) 1
  give (record { last = l; golden = g; altref = a })

-- loop_filter_params()
abbrev pub no_delta : DeltaValues
no_delta = record { coded = 0; magnitude = 0; sign = 0 }

abbrev pub no_ref_deltas : Times 4 DeltaValues
no_ref_deltas = times 4 no_delta

abbrev pub no_mode_deltas : Times 2 DeltaValues
no_mode_deltas = times 2 no_delta

abbrev pub no_loop_filter : LoopFilterValues
no_loop_filter = record { level = 0; sharpness = 0; delta_enabled = 0; delta_update = 0; ref_deltas = no_ref_deltas; mode_deltas = no_mode_deltas }

unfoldable pub read_delta : Name → Name → Name → ℕ → Reader DeltaValues
read_delta x y z n = do
  u ← field x 1
  m ← field_if (flag u) y n
  g ← field_if (flag u) z 1
  give (record { coded = u; magnitude = m; sign = g })

abbrev pub read_ref_delta : ℕ → Reader DeltaValues
read_ref_delta i = read_delta (item "update_ref_delta" i) (item "loop_filter_ref_deltas" i) (item "loop_filter_ref_deltas_sign" i) 6

abbrev pub read_mode_delta : ℕ → Reader DeltaValues
read_mode_delta i = read_delta (item "update_mode_delta" i) (item "loop_filter_mode_deltas" i) (item "loop_filter_mode_deltas_sign" i) 6

unfoldable pub read_ref_deltas : Reader (Times 4 DeltaValues)
read_ref_deltas = many 0 4 read_ref_delta

unfoldable pub read_mode_deltas : Reader (Times 2 DeltaValues)
read_mode_deltas = many 0 2 read_mode_delta

unfoldable pub read_loop_filter : Reader LoopFilterValues
read_loop_filter = do
  l ← field (the "loop_filter_level") 6
  h ← field (the "loop_filter_sharpness") 3
  e ← field (the "loop_filter_delta_enabled") 1
  u ← field_if (flag e) (the "loop_filter_delta_update") 1
  r ← group_if (flag u) no_ref_deltas read_ref_deltas
  m ← group_if (flag u) no_mode_deltas read_mode_deltas
  give (record { level = l; sharpness = h; delta_enabled = e; delta_update = u; ref_deltas = r; mode_deltas = m })

-- quantization_params()
abbrev pub no_quantizer : QuantizerValues
no_quantizer = record { base_q_idx = 0; delta_q_y_dc = no_delta; delta_q_uv_dc = no_delta; delta_q_uv_ac = no_delta }

abbrev pub read_delta_q : ℕ → Reader DeltaValues
read_delta_q i = read_delta (item "delta_coded" i) (item "delta_q" i) (item "delta_q_sign" i) 4

unfoldable pub read_quantizer : Reader QuantizerValues
read_quantizer = do
  b ← field (the "base_q_idx") 8
  y ← read_delta_q 0
  d ← read_delta_q 1
  a ← read_delta_q 2
  give (record { base_q_idx = b; delta_q_y_dc = y; delta_q_uv_dc = d; delta_q_uv_ac = a })

-- segmentation_params()
abbrev pub no_prob : ProbValues
no_prob = record { coded = 0; prob = 0 }

abbrev pub no_probs : (n : ℕ) → Times n ProbValues
no_probs n = times n no_prob

abbrev pub no_feature : FeatureValues
no_feature = record { feature_enabled = 0; feature_value = 0; feature_sign = 0 }

abbrev pub no_features : Times 8 (Times 4 FeatureValues)
no_features = times 8 (times 4 no_feature)

abbrev pub no_segmentation : SegmentationValues
no_segmentation =
    record {
      enabled = 0;
      update_map = 0;
      tree_probs = no_probs 7;
      temporal_update = 0;
      pred_probs = no_probs 3;
      update_data = 0;
      abs_or_delta_update = 0;
      features = no_features;
    }

unfoldable pub read_prob : Name → Name → Reader ProbValues
read_prob x y = do
  u ← field x 1
  m ← field_if (flag u) y 8
  give (record { coded = u; prob = m })

unfoldable pub read_probs : String → String → (n : ℕ) → Reader (Times n ProbValues)
read_probs x y n = many 0 n (λ i. read_prob (item x i) (item y i))

unfoldable pub read_feature : ℕ → ℕ → Reader FeatureValues
read_feature i j = do
  e ← field (feature "feature_enabled" i j) 1
  m ← field_if (flag e) (feature "feature_value" i j) (feature_bits j)
  g ← field_if (flag e && feature_signed j) (feature "feature_sign" i j) 1
  give (record { feature_enabled = e; feature_value = m; feature_sign = g })

unfoldable pub read_features : Reader (Times 8 (Times 4 FeatureValues))
read_features = many 0 8 (λ i. many 0 4 (read_feature i))

unfoldable pub read_segmentation : Reader SegmentationValues
read_segmentation = do
  e ← field (the "segmentation_enabled") 1
  m ← field_if (flag e) (the "segmentation_update_map") 1
  t ← group_if (flag m) (no_probs 7) (read_probs "tree_prob_coded" "segmentation_tree_probs" 7)
  u ← field_if (flag m) (the "segmentation_temporal_update") 1
  p ← group_if (flag u) (no_probs 3) (read_probs "pred_prob_coded" "segmentation_pred_prob" 3)
  d ← field_if (flag e) (the "segmentation_update_data") 1
  a ← field_if (flag d) (the "segmentation_abs_or_delta_update") 1
  f ← group_if (flag d) no_features read_features
  give (record { enabled = e; update_map = m; tree_probs = t; temporal_update = u; pred_probs = p; update_data = d; abs_or_delta_update = a; features = f })

-- tile_info(); of a run, how many bits b there are
abbrev pub no_tiles : TilesValues
no_tiles = record { increment_tile_cols_log2 = 0; tile_rows_log2 = 0; increment_tile_rows_log2 = 0 }

unfoldable pub read_run : String → ℕ → ℕ → ℕ → Reader ℕ
read_run x b i zero = give 0
read_run x b i (suc n) = do
  a ← field (item x i) 1
  pick (eqb a b)
      (do
        k ← read_run x b (i + 1) n
        give (suc k))
      (give 0)

abbrev pub read_cols : ℕ → Reader ℕ
read_cols width = read_run "increment_tile_cols_log2" 1 0 (span width)

unfoldable pub read_tiles : ℕ → Reader TilesValues
read_tiles width = do
  k ← read_cols width
  r ← field (the "tile_rows_log2") 1
  m ← field_if (flag r) (the "increment_tile_rows_log2") 1
  give (record { increment_tile_cols_log2 = k; tile_rows_log2 = r; increment_tile_rows_log2 = m })

-- uncompressed_header()
unfoldable pub read_sync : Reader ℕ
read_sync = do
  n ← must (the "frame_sync_code") 24 0x498342 sync_code
  give n

abbrev pub no_frame : FrameValues
no_frame =
    record {
      frame_type = 0;
      show_frame = 0;
      error_resilient_mode = 0;
      intra_only = 0;
      reset_frame_context = 0;
      frame_sync_code = 0;
      color = no_color;
      refresh_frame_flags = 0;
      refs = no_refs;
      found_ref = no_found;
      size = no_size_values;
      render = no_render;
      allow_high_precision_mv = 0;
      is_filter_switchable = 0;
      raw_interpolation_filter = 0;
      refresh_frame_context = 0;
      frame_parallel_decoding_mode = 0;
      frame_context_idx = 0;
      loop_filter = no_loop_filter;
      quantizer = no_quantizer;
      segmentation = no_segmentation;
      tiles = no_tiles;
      header_size_in_bytes = 0;
    }

unfoldable pub read_frame : List FrameSize → ℕ → Reader FrameValues
read_frame slots profile = do
  t ← field (the "frame_type") 1
  w ← field (the "show_frame") 1
  e ← field (the "error_resilient_mode") 1
  i ← field_if (not (eqb t 0) && not (flag w)) (the "intra_only") 1
  o ← field_if (not (eqb t 0) && not (flag e)) (the "reset_frame_context") 2
  y ← group_if (eqb t 0 || flag i) 0 read_sync
  c ← group_if (eqb t 0 || (flag i && ltb 0 profile)) no_color (read_color profile)
  f ← field_if (not (eqb t 0)) (the "refresh_frame_flags") 8
  r ← group_if (not (eqb t 0 || flag i)) no_refs read_refs
  d ← group_if (not (eqb t 0 || flag i)) no_found read_found
  z ← group_if (eqb (found_at d) 3) no_size_values read_frame_size
  n ← read_render
  h ← field_if (not (eqb t 0 || flag i)) (the "allow_high_precision_mv") 1
  b ← field_if (not (eqb t 0 || flag i)) (the "is_filter_switchable") 1
  a ← field_if (not (eqb t 0 || flag i) && not (flag b)) (the "raw_interpolation_filter") 2
  x ← field_if (not (flag e)) (the "refresh_frame_context") 1
  p ← field_if (not (flag e)) (the "frame_parallel_decoding_mode") 1
  j ← field (the "frame_context_idx") 2
  l ← read_loop_filter
  q ← read_quantizer
  g ← read_segmentation
  k ← read_tiles (size_from slots r d z).width
  m ← field (the "header_size_in_bytes") 16
  give
      (record {
        frame_type = t;
        show_frame = w;
        error_resilient_mode = e;
        intra_only = i;
        reset_frame_context = o;
        frame_sync_code = y;
        color = c;
        refresh_frame_flags = f;
        refs = r;
        found_ref = d;
        size = z;
        render = n;
        allow_high_precision_mv = h;
        is_filter_switchable = b;
        raw_interpolation_filter = a;
        refresh_frame_context = x;
        frame_parallel_decoding_mode = p;
        frame_context_idx = j;
        loop_filter = l;
        quantizer = q;
        segmentation = g;
        tiles = k;
        header_size_in_bytes = m;
      })

unfoldable pub read_header : List FrameSize → Reader HeaderValues
read_header slots = do
  m ← must (the "frame_marker") 2 2 frame_marker
  l ← field (the "profile_low_bit") 1
  h ← field (the "profile_high_bit") 1
  z ← field_if (eqb (h * 2 + l) 3) (the "reserved_zero") 1
  x ← field (the "show_existing_frame") 1
  i ← field_if (flag x) (the "frame_to_show_map_idx") 3
  f ← group_if (not (flag x)) no_frame (read_frame slots (h * 2 + l))
  give (record { frame_marker = m; profile_low_bit = l; profile_high_bit = h; reserved_zero = z; show_existing_frame = x; frame_to_show_map_idx = i; frame = f })
