-- The answer to a frame, read part by part: the parts make the record and the state of the values, and the place past
-- them is the spelling's length.
-- Assumes nothing.
use Prim.Native.Nat.{ℕ}
use mathlib.Core.Path.{◌≡◌, refl, sym, ◌∙◌}
use mathlib.Core.Bool.{false, not}
use mathlib.Core.List.{List}
use native.Mathlib.Omega.{arith}
use lib.Dec.{eqb}
use lib.ListN.{length}
use Rattle.base_shared.specs.Choice.{pick}
use Rattle.base_syntax.specs.Syntax.{flag, flat}
use Rattle.base_syntax.specs.Reader.{read, bind, group_if}
use Rattle.base_syntax.proofs.Fields.{length_flat}
use Rattle.base_syntax.proofs.Binds.{split}
use Rattle.base_size.specs.declared.FrameSize.{FrameSize}
use Rattle.base_types.specs.declared.state.ReaderState.{ReaderState}
use Rattle.part_traits.specs.Traits.{traits_of}
use Rattle.part_traits.specs.Kind.{kind_of}
use Rattle.part_opening.specs.Profile.{opening_profile}
use Rattle.part_opening.specs.Opening.{OpeningValues, read_opening, opening_of}
use Rattle.part_sizes.specs.Sizes.{sizes_of, with_render}
use Rattle.part_refs.specs.Refs.{ref_of, refs_of}
use Rattle.part_size_with_refs.specs.SizeWithRefs.{size_with_refs_of}
use Rattle.part_color.specs.declared.Color.{Color}
use Rattle.header_picture.specs.Key.{key_of}
use Rattle.header_picture.specs.IntraOnly.{intra_only_of}
use Rattle.header_inter.specs.Inter.{inter_of}
use Rattle.header_lead.specs.declared.Lead.{Lead}
use Rattle.header_lead.specs.Shot.{shot_of}
use Rattle.header_lead.specs.Lead.{LeadValues, read_lead, lead_is_independent, lead_of}
use Rattle.header_tail.specs.Settings.{SettingsValues, read_settings, settings_of}
use Rattle.header_tail.specs.Closing.{ClosingValues, read_closing, closing_of}
use Rattle.header_record.specs.Record.{independent, cut_length, frame_record}
use Rattle.header_state.specs.State.{frame_state}
use Rattle.grammar_tables.specs.Tables.{found_at}
use Rattle.grammar_tables.specs.Header.{HeaderValues, header_fields}
use Rattle.grammar_record.specs.Record.{length_of, header_of, state_after}
use Rattle.grammar_tables.specs.Reading.{no_frame, read_frame, read_header}
use Rattle.grammar_tables.proofs.Header.{header_reads, header_size_lem}
use Rattle.header_answer.specs.Answer.{HeaderRead, accepted}
use Rattle.header_parser.specs.Parts.{remembered_color, shown_header}
use Rattle.header_parser.specs.Answer.{outcome, parsed}
use Rattle.header_parser.proofs.Outcomes.{outcome_bind, outcome_same}
use Rattle.header_parser.proofs.Flat.{flat_frame, flat_header, width_from, in_parts_lem, opening_first}
use Rattle.header_parser.proofs.Parts.{width_of, finished, framed, opened}
use Rattle.header_parser.proofs.Record.{frame_parts, state_parts}

-- the width in the record is the frame's, and the record's independence the values'
width_same : (profile : ℕ) (color : Color) (slots : List FrameSize) (l : LeadValues) → width_of (lead_of profile color slots l) ≡ width_from slots l
unfolding lead_of shot_of key_of intra_only_of inter_of sizes_of size_with_refs_of with_render refs_of ref_of found_at
width_same profile color slots l =
    split (eqb l.traits.frame_type 0) (λ key. simp (key, width_of, width_from)) λ other.
    split (flag l.shot.kind.intra_only) (λ only. simp (other, only, width_of, width_from)) (λ inter. simp (other, inter, width_of, width_from))

independent_same : (profile : ℕ) (color : Color) (slots : List FrameSize) (l : LeadValues) → independent (lead_of profile color slots l) ≡ lead_is_independent l
unfolding lead_of traits_of shot_of kind_of
independent_same profile color slots l = refl

module _ (s : List ℕ) (st : ReaderState) where
  abbrev slots : List FrameSize
  slots = st.reference_frame_sz

  abbrev answer : HeaderValues → ℕ → HeaderRead
  answer v p = accepted (header_of st v) (state_after st v)

  length_same : (v : HeaderValues) (t : ℕ) → read_header slots s 0 ≡ read v t → cut_length t ≡ length_of (length (flat (header_fields slots v)))
  length_same v t e = let m = (header_reads slots).sound s 0 v t e in omega (arith, m.2, header_size_lem slots v, length_flat (header_fields slots v))

  module _ (o : OpeningValues) (p : ℕ) (eo : read_opening s 0 ≡ read o p) where
    abbrev profile : ℕ
    profile = opening_profile o.profile

    abbrev lead : LeadValues → Lead
    lead l = lead_of profile (remembered_color st) slots l

    -- the last part of a frame that isn't shown from a slot
    module _ (h : flag o.show_existing_frame ≡ false) (l : LeadValues) (q : ℕ) (el : read_lead profile s p ≡ read l q) (g : SettingsValues) (r : ℕ) (eg : read_settings s q ≡ read g r) where
      abbrev values : ClosingValues → HeaderValues
      values c = flat_header o (flat_frame l g c)

      header_read : (c : ClosingValues) (t : ℕ) → read_closing (width_from slots l) s r ≡ read c t → read_header slots s 0 ≡ read (values c) t
      unfolding group_if
      header_read c t ec = rw (opening_first slots s 0, eo, h, in_parts_lem slots profile s p, el, eg, ec)

      last_same : (c : ClosingValues) (t : ℕ) → read_closing (width_from slots l) s r ≡ read c t
          → answer (values c) t ≡ accepted (frame_record profile (lead l) (settings_of (independent (lead l)) st.lf st.seg g) (closing_of (width_from slots l) c) (cut_length t)) (frame_state st profile (lead l) (settings_of (independent (lead l)) st.lf st.seg g))
      unfolding header_of state_after
      last_same c t ec =
          rw (h, state_parts st profile l g c, frame_parts st profile l g c, independent_same profile (remembered_color st) slots l, length_same (values c) t (header_read c t ec))

      closing_same : outcome st (λ f n. answer (flat_header o f) n) (bind (read_closing (width_from slots l) s r) (λ c t. read (flat_frame l g c) t))
          ≡ finished st profile (lead l) (settings_of (independent (lead l)) st.lf st.seg g) s r
      unfolding lead_of shot_of
      closing_same =
          rw (width_same profile (remembered_color st) slots l)
          (outcome_bind st (read_closing (width_from slots l) s r) _ _ ∙ outcome_same st _ (read_closing (width_from slots l) s r) _ _ last_same)

    frame_same : flag o.show_existing_frame ≡ false → outcome st answer (bind (read_frame slots profile s p) (λ f n. read (flat_header o f) n)) ≡ framed st profile s p
    frame_same h =
        outcome_bind st (read_frame slots profile s p) _ _
        ∙ rw (in_parts_lem slots profile s p)
        (outcome_bind st (read_lead profile s p) _ _
        ∙ outcome_same st _ (read_lead profile s p) _ _ λ l q el.
        outcome_bind st (read_settings s q) _ _
        ∙ outcome_same st _ (read_settings s q) _ _ (λ g r eg. closing_same h l q el g r eg))

    kind_same : outcome st answer (bind (group_if (not (flag o.show_existing_frame)) no_frame (read_frame slots profile) s p) (λ f n. read (flat_header o f) n))
        ≡ pick (opening_of o).show_existing_frame (accepted (shown_header (opening_of o)) st) (framed st (opening_of o).profile s p)
    unfolding group_if header_of state_after shown_header opening_of
    kind_same = split (flag o.show_existing_frame) (λ h. rw h (rw h)) (λ h. rw h (frame_same h))

  pub opened_same : parsed s st ≡ opened st s
  unfolding parsed
  opened_same = rw (opening_first slots s 0) (outcome_bind st (read_opening s 0) _ _ ∙ outcome_same st _ (read_opening s 0) _ _ kind_same)

pub as_opened : (s : List ℕ) (st : ReaderState) (y : HeaderRead) → y ≡ opened st s → y ≡ parsed s st
as_opened s st y e = e ∙ sym (opened_same s st)
