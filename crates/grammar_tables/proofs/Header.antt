-- The law of uncompressed_header() under the remembered sizes, and how many bits it can have.
-- Assumes nothing.
use Prim.Native.Nat.{ℕ, ◌+◌, ◌*◌, ◌≤◌}
use mathlib.Core.Path.{◌≡◌, refl}
use mathlib.Core.Bool.{true, not, ◌&&◌, ◌||◌}
use mathlib.Core.List.{List, [], ◌∷◌}
use native.Mathlib.Omega.{arith}
use lib.Dec.{eqb, ltb}
use Rattle.base_bits.specs.Refusal.{the, sync_code}
use Rattle.base_syntax.specs.Syntax.{fixed, flag, size}
use Rattle.base_syntax.specs.Many.{many_fields}
use Rattle.base_syntax.specs.Reader.{group_if}
use Rattle.base_syntax.specs.Law.{Any, Reads}
use Rattle.base_syntax.proofs.Fields.{size_append, size_if, size_optional, zeros}
use Rattle.base_syntax.proofs.Laws.{take, take_if, take_by, demand, then, then_as, next_by, next_if, group_if_lem, last, respelt, done}
use Rattle.base_size.specs.declared.FrameSize.{FrameSize}
use Rattle.base_shared.specs.Lists.{first}
use Rattle.grammar_tables.specs.Tables.{color_fields, size_fields, render_fields, ref_fields, refs_fields, found_fields, found_at, delta_fields, loop_filter_fields, quantizer_fields, prob_fields, probs_fields, feature_fields, features_fields, segmentation_fields, run_fields, tiles_fields, least, most}
use Rattle.grammar_tables.specs.Header.{FrameValues, is_key, is_intra, is_colored, size_of, size_from, frame_size, frame_fields, HeaderValues, header_profile, shows_existing, header_fields}
use Rattle.grammar_tables.specs.Reading.{no_color, no_refs, no_found, no_size_values, read_sync, no_frame, read_frame, read_header}
use Rattle.grammar_tables.proofs.Laws.{color_reads, color_nil, color_size, size_reads, size_nil, size_size, render_reads, render_size, refs_reads, refs_nil, refs_size, found_reads, found_nil, found_size_lem, loop_filter_reads, loop_filter_size, quantizer_reads, quantizer_size, segmentation_reads, segmentation_size, tiles_reads, tiles_size}

sync_reads : Reads Any (λ n. fixed (the "frame_sync_code") 24 0x498342 sync_code n ∷ []) read_sync
unfolding read_sync
sync_reads = demand (λ n. n) (omega arith) λ n. done _ (search) (λ b k. k.1)

frame_reads : (slots : List FrameSize) (profile : ℕ) → Reads Any (frame_fields slots profile) (read_frame slots profile)
unfolding frame_fields read_frame
frame_reads slots profile =
    take (λ (v : FrameValues). v.frame_type) λ t.
    take (λ (v : FrameValues). v.show_frame) λ w.
    take (λ (v : FrameValues). v.error_resilient_mode) λ e.
    take_if (not (eqb t 0) && not (flag w)) (λ v. not (is_key v) && not (flag v.show_frame)) (λ v k. rw (k.0.1, k.0.0.1)) _ 1 (λ (v : FrameValues). v.intra_only) λ i.
    take_if (not (eqb t 0) && not (flag e)) (λ v. not (is_key v) && not (flag v.error_resilient_mode)) (λ v k. rw (k.0.1, k.0.0.0.1)) _ 2 (λ (v : FrameValues). v.reset_frame_context) λ o.
    respelt (λ v k. rw (k.0.1, k.0.0.1, k.0.0.0.0.1))
    (next_by (eqb t 0 || flag i) 0 refl (λ (v : FrameValues). v.frame_sync_code) sync_reads λ y.
    next_by (eqb t 0 || (flag i && ltb 0 profile)) no_color (color_nil profile) (λ (v : FrameValues). v.color) (color_reads profile) λ c.
    take_by (not (eqb t 0)) _ 8 (λ (v : FrameValues). v.refresh_frame_flags) λ f.
    next_by (not (eqb t 0 || flag i)) no_refs refs_nil (λ (v : FrameValues). v.refs) refs_reads λ r.
    next_by (not (eqb t 0 || flag i)) no_found found_nil (λ (v : FrameValues). v.found_ref) found_reads λ d.
    next_if (eqb (found_at d) 3) (λ (v : FrameValues). eqb (found_at v.found_ref) 3) (λ v k. rw k.1) no_size_values (size_nil _ _) (λ (v : FrameValues). v.size) (size_reads _ _) λ z.
    then (λ (v : FrameValues). v.render) render_reads λ n.
    take_by (not (eqb t 0 || flag i)) _ 1 (λ (v : FrameValues). v.allow_high_precision_mv) λ h.
    take_by (not (eqb t 0 || flag i)) _ 1 (λ (v : FrameValues). v.is_filter_switchable) λ b.
    take_if (not (eqb t 0 || flag i) && not (flag b)) (λ (v : FrameValues). not (eqb t 0 || flag i) && not (flag v.is_filter_switchable)) (λ v k. rw k.1) _ 2 (λ (v : FrameValues). v.raw_interpolation_filter) λ a.
    take_by (not (flag e)) _ 1 (λ (v : FrameValues). v.refresh_frame_context) λ x.
    take_by (not (flag e)) _ 1 (λ (v : FrameValues). v.frame_parallel_decoding_mode) λ p.
    take (λ (v : FrameValues). v.frame_context_idx) λ j.
    then (λ (v : FrameValues). v.loop_filter) loop_filter_reads λ l.
    then (λ (v : FrameValues). v.quantizer) quantizer_reads λ q.
    then (λ (v : FrameValues). v.segmentation) segmentation_reads λ g.
    then_as (λ (v : FrameValues). tiles_fields (frame_size slots v).width v.tiles) (λ (v : FrameValues). v.tiles) (λ v k. rw (k.0.0.0.0.0.0.0.0.0.0.1, k.0.0.0.0.0.0.0.0.0.0.0.1, k.0.0.0.0.0.0.0.0.0.0.0.0.1)) (tiles_reads (size_from slots r d z).width) λ u.
    take (λ (v : FrameValues). v.header_size_in_bytes) λ m.
    done _ (((((((((((((((((((((((tt, refl), refl), refl), refl), refl), refl), refl), refl), refl), refl), refl), refl), refl), refl), refl), refl), refl), refl), refl), refl), refl), refl), refl) (λ v k. rw (← k.1, ← k.0.1, ← k.0.0.1, ← k.0.0.0.1, ← k.0.0.0.0.1, ← k.0.0.0.0.0.1, ← k.0.0.0.0.0.0.1, ← k.0.0.0.0.0.0.0.1, ← k.0.0.0.0.0.0.0.0.1, ← k.0.0.0.0.0.0.0.0.0.1, ← k.0.0.0.0.0.0.0.0.0.0.1, ← k.0.0.0.0.0.0.0.0.0.0.0.1, ← k.0.0.0.0.0.0.0.0.0.0.0.0.1, ← k.0.0.0.0.0.0.0.0.0.0.0.0.0.1, ← k.0.0.0.0.0.0.0.0.0.0.0.0.0.0.1, ← k.0.0.0.0.0.0.0.0.0.0.0.0.0.0.0.1, ← k.0.0.0.0.0.0.0.0.0.0.0.0.0.0.0.0.1, ← k.0.0.0.0.0.0.0.0.0.0.0.0.0.0.0.0.0.1, ← k.0.0.0.0.0.0.0.0.0.0.0.0.0.0.0.0.0.0.1, ← k.0.0.0.0.0.0.0.0.0.0.0.0.0.0.0.0.0.0.0.1, ← k.0.0.0.0.0.0.0.0.0.0.0.0.0.0.0.0.0.0.0.0.1, ← k.0.0.0.0.0.0.0.0.0.0.0.0.0.0.0.0.0.0.0.0.0.1, ← k.0.0.0.0.0.0.0.0.0.0.0.0.0.0.0.0.0.0.0.0.0.0.1)))

frame_nil : (slots : List FrameSize) (profile : ℕ) → zeros (frame_fields slots profile no_frame) ≡ true
unfolding frame_fields color_fields refs_fields ref_fields found_fields found_at size_fields size_of render_fields loop_filter_fields delta_fields quantizer_fields segmentation_fields probs_fields prob_fields features_fields feature_fields many_fields tiles_fields run_fields first least most
frame_nil slots profile = refl

pub header_reads : (slots : List FrameSize) → Reads Any (header_fields slots) (read_header slots)
unfolding header_fields read_header group_if
header_reads slots =
    demand (λ (v : HeaderValues). v.frame_marker) (omega arith) λ m.
    take (λ (v : HeaderValues). v.profile_low_bit) λ l.
    take (λ (v : HeaderValues). v.profile_high_bit) λ h.
    take_if (eqb (h * 2 + l) 3) (λ v. eqb (header_profile v) 3) (λ v k. rw (k.1, k.0.1)) _ 1 (λ (v : HeaderValues). v.reserved_zero) λ z.
    take (λ (v : HeaderValues). v.show_existing_frame) λ x.
    respelt (λ v k. rw (k.1, k.0.0.1, k.0.0.0.1))
    (take_by (flag x) _ 3 (λ (v : HeaderValues). v.frame_to_show_map_idx) λ i.
    last (λ (v : HeaderValues). v.frame) (group_if_lem (not (flag x)) no_frame (frame_nil slots (h * 2 + l)) (frame_reads slots (h * 2 + l))) (λ a. (search)) (λ a. refl)
    (λ v k. rw (← k.1, ← k.0.1, ← k.0.0.1, ← k.0.0.0.1, ← k.0.0.0.0.1, ← k.0.0.0.0.0.1)))

frame_size_lem : (slots : List FrameSize) (profile : ℕ) (v : FrameValues) → size (frame_fields slots profile v) ≤ 735
unfolding frame_fields
frame_size_lem slots profile v =
    let intra = is_intra v in
    let inter = not intra in
    let resilient = flag v.error_resilient_mode in
    simp size_append
    (omega (
      arith,
      size_if (not (is_key v) && not (flag v.show_frame)) 1,
      size_if (not (is_key v) && not resilient) 2,
      size_optional intra (fixed (the "frame_sync_code") 24 0x498342 sync_code v.frame_sync_code ∷ []) 24 (omega arith),
      size_optional (is_colored profile v) (color_fields profile v.color) 8 (color_size profile v.color),
      size_if (not (is_key v)) 8,
      size_optional inter (refs_fields v.refs) 12 (refs_size v.refs),
      size_optional inter (found_fields v.found_ref) 3 (found_size_lem v.found_ref),
      size_optional (eqb (found_at v.found_ref) 3) (size_fields _ _ v.size) 32 (size_size (the "frame_width_minus_1") (the "frame_height_minus_1") v.size),
      render_size v.render,
      size_if inter 1,
      size_if (inter && not (flag v.is_filter_switchable)) 2,
      size_if (not resilient) 1,
      loop_filter_size v.loop_filter,
      quantizer_size v.quantizer,
      segmentation_size v.segmentation,
      tiles_size (frame_size slots v).width v.tiles,
    ))

pub header_size_lem : (slots : List FrameSize) (v : HeaderValues) → size (header_fields slots v) ≤ 744
unfolding header_fields
header_size_lem slots v =
    omega (
      arith,
      size_if (eqb (header_profile v) 3) 1,
      size_if (shows_existing v) 3,
      size_optional (not (shows_existing v)) (frame_fields slots (header_profile v) v.frame) 735 (frame_size_lem slots (header_profile v) v.frame),
    )
