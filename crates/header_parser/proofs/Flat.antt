-- uncompressed_header() is read as the parts are that the code reads, one after the other.
-- Assumes nothing.
use Prim.Native.Nat.{ℕ}
use mathlib.Core.Path.{◌≡◌}
use mathlib.Core.Bool.{not}
use mathlib.Core.List.{List}
use lib.Dec.{eqb}
use Rattle.base_bits.specs.Refusal.{the}
use Rattle.base_shared.specs.Choice.{pick}
use Rattle.base_syntax.specs.Syntax.{flag}
use Rattle.base_syntax.specs.Reader.{Read, read, bind, field, group_if, field_if}
use Rattle.base_syntax.proofs.Binds.{bind_assoc, bind_same, split}
use Rattle.base_size.specs.declared.FrameSize.{FrameSize}
use Rattle.grammar_tables.specs.Tables.{found_at}
use Rattle.grammar_tables.specs.Header.{FrameValues, HeaderValues, size_from}
use Rattle.grammar_tables.specs.Reading.{no_color, no_refs, no_found, read_frame, read_header, no_frame}
use Rattle.part_opening.specs.Profile.{opening_profile, read_profile}
use Rattle.part_opening.specs.Opening.{OpeningValues, read_opening}
use Rattle.part_traits.specs.Traits.{read_traits}
use Rattle.part_traits.specs.Kind.{read_kind}
use Rattle.part_traits.specs.Context.{read_context}
use Rattle.part_color.specs.Intra.{read_intra_color}
use Rattle.part_sizes.specs.Sizes.{read_sizes}
use Rattle.part_refs.specs.Sources.{read_sources}
use Rattle.part_size_with_refs.specs.SizeWithRefs.{read_size_with_refs}
use Rattle.part_motion.specs.Filter.{read_filter}
use Rattle.part_motion.specs.Motion.{read_motion}
use Rattle.header_picture.specs.Key.{read_key}
use Rattle.header_picture.specs.IntraOnly.{read_intra_only}
use Rattle.header_inter.specs.Inter.{read_inter}
use Rattle.header_lead.specs.Shot.{read_shot}
use Rattle.header_lead.specs.Lead.{LeadValues, read_lead}
use Rattle.header_tail.specs.Settings.{SettingsValues, read_settings}
use Rattle.header_tail.specs.Closing.{ClosingValues, read_closing}

-- one of three, by the kind of frame
abbrev by_kind : {A : Type 0} → LeadValues → A → A → A → A
by_kind l key intra inter = pick (eqb l.traits.frame_type 0) key (pick (flag l.shot.kind.intra_only) intra inter)

-- the frame's width, which the tiles go by
abbrev pub width_from : List FrameSize → LeadValues → ℕ
width_from slots l =
    (size_from slots (by_kind l no_refs no_refs l.shot.inter.sources.refs) (by_kind l no_found no_found l.shot.inter.sizes.found_ref)
    (by_kind l l.shot.key.sizes.size l.shot.intra_only.sizes.size l.shot.inter.sizes.size)).width

-- the values of the parts, in the table's order
abbrev pub flat_frame : LeadValues → SettingsValues → ClosingValues → FrameValues
flat_frame l g c =
    record {
      frame_type = l.traits.frame_type;
      show_frame = l.traits.show_frame;
      error_resilient_mode = l.traits.error_resilient_mode;
      intra_only = l.shot.kind.intra_only;
      reset_frame_context = l.shot.kind.reset_frame_context;
      frame_sync_code = by_kind l l.shot.key.frame_sync_code l.shot.intra_only.frame_sync_code 0;
      color = by_kind l l.shot.key.color l.shot.intra_only.color no_color;
      refresh_frame_flags = by_kind l 0 l.shot.intra_only.refresh_frame_flags l.shot.inter.sources.refresh_frame_flags;
      refs = by_kind l no_refs no_refs l.shot.inter.sources.refs;
      found_ref = by_kind l no_found no_found l.shot.inter.sizes.found_ref;
      size = by_kind l l.shot.key.sizes.size l.shot.intra_only.sizes.size l.shot.inter.sizes.size;
      render = by_kind l l.shot.key.sizes.render l.shot.intra_only.sizes.render l.shot.inter.sizes.render;
      allow_high_precision_mv = by_kind l 0 0 l.shot.inter.motion.allow_high_precision_mv;
      is_filter_switchable = by_kind l 0 0 l.shot.inter.motion.filter.is_filter_switchable;
      raw_interpolation_filter = by_kind l 0 0 l.shot.inter.motion.filter.raw_interpolation_filter;
      refresh_frame_context = l.context.refresh_frame_context;
      frame_parallel_decoding_mode = l.context.frame_parallel_decoding_mode;
      frame_context_idx = l.context.frame_context_idx;
      loop_filter = g.loop_filter;
      quantizer = g.quantizer;
      segmentation = g.segmentation;
      tiles = c.tiles;
      header_size_in_bytes = c.header_size_in_bytes;
    }

-- written out where `width_from` would do, since rewriting doesn't look into it
abbrev pub in_parts : List FrameSize → ℕ → List ℕ → ℕ → Read FrameValues
in_parts slots profile s p =
    bind (read_lead profile s p) λ l q.
    bind (read_settings s q) λ g r.
    bind (read_closing (size_from slots
    (by_kind l no_refs no_refs l.shot.inter.sources.refs)
    (by_kind l no_found no_found l.shot.inter.sizes.found_ref)
    (by_kind l l.shot.key.sizes.size l.shot.intra_only.sizes.size l.shot.inter.sizes.size)).width s r) λ c t.
    read (flat_frame l g c) t

pub in_parts_lem : (slots : List FrameSize) (profile : ℕ) (s : List ℕ) (p : ℕ) → read_frame slots profile s p ≡ in_parts slots profile s p
unfolding read_frame read_lead read_traits read_shot read_kind read_key read_intra_only read_intra_color read_inter read_sources read_sizes read_size_with_refs read_motion read_filter read_context read_settings read_closing group_if field_if found_at
in_parts_lem slots profile s p =
    simp bind_assoc
    (bind_same (field (the "frame_type") 1 s p) _ _ λ t p.
    bind_same (field (the "show_frame") 1 s p) _ _ λ w p.
    bind_same (field (the "error_resilient_mode") 1 s p) _ _ λ e p.
    split (eqb t 0)
    (λ key. rw key (simp bind_assoc))
    (λ other. rw other (simp bind_assoc
    (bind_same (field_if (not (flag w)) (the "intra_only") 1 s p) _ _ λ i p.
    bind_same (field_if (not (flag e)) (the "reset_frame_context") 2 s p) _ _ λ o p.
    split (flag i) (λ only. rw only (simp bind_assoc)) (λ inter. rw inter (simp bind_assoc))))))

abbrev pub flat_header : OpeningValues → FrameValues → HeaderValues
flat_header o f =
    record {
      frame_marker = o.profile.frame_marker;
      profile_low_bit = o.profile.profile_low_bit;
      profile_high_bit = o.profile.profile_high_bit;
      reserved_zero = o.profile.reserved_zero;
      show_existing_frame = o.show_existing_frame;
      frame_to_show_map_idx = o.frame_to_show_map_idx;
      frame = f;
    }

-- the opening is read first, and then a frame that isn't shown from a slot
pub opening_first : (slots : List FrameSize) (s : List ℕ) (p : ℕ)
    → read_header slots s p
    ≡ bind (read_opening s p) (λ o q. bind (group_if (not (flag o.show_existing_frame)) no_frame (read_frame slots (opening_profile o.profile)) s q) (λ f t. read (flat_header o f) t))
unfolding read_header read_opening read_profile
opening_first slots s p = simp bind_assoc
