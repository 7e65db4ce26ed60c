-- The record and the state that the code puts together from its parts are those of the field values.
-- Assumes nothing.
use Prim.Native.Nat.{ℕ}
use mathlib.Core.Path.{◌≡◌}
use mathlib.Core.List.{List}
use lib.Dec.{eqb, ltb}
use Rattle.base_syntax.specs.Syntax.{flag}
use Rattle.base_syntax.proofs.Binds.{split}
use Rattle.base_size.specs.declared.FrameSize.{FrameSize}
use Rattle.base_types.specs.declared.state.ReaderState.{ReaderState}
use Rattle.part_traits.specs.Traits.{traits_of}
use Rattle.part_traits.specs.Kind.{kind_of}
use Rattle.part_traits.specs.Context.{context_of}
use Rattle.part_color.specs.Color.{color_of}
use Rattle.part_color.specs.Intra.{intra_color_of}
use Rattle.part_sizes.specs.Render.{render_of}
use Rattle.part_sizes.specs.Sizes.{with_render, sizes_of}
use Rattle.part_refs.specs.Refs.{ref_of, refs_of}
use Rattle.part_refs.specs.Sources.{sources_of}
use Rattle.part_size_with_refs.specs.SizeWithRefs.{size_with_refs_of}
use Rattle.part_motion.specs.Filter.{filter_of}
use Rattle.part_motion.specs.Motion.{motion_of}
use Rattle.part_tiles.specs.Tiles.{tiles_of}
use Rattle.header_picture.specs.Key.{key_of}
use Rattle.header_picture.specs.IntraOnly.{intra_only_of}
use Rattle.header_inter.specs.Inter.{inter_of}
use Rattle.header_lead.specs.declared.Lead.{Lead}
use Rattle.header_lead.specs.Shot.{shot_of}
use Rattle.header_lead.specs.Lead.{LeadValues, lead_is_independent, lead_of}
use Rattle.header_tail.specs.declared.Settings.{Settings}
use Rattle.header_tail.specs.Settings.{SettingsValues, settings_over, settings_of}
use Rattle.header_tail.specs.Closing.{ClosingValues, closing_of}
use Rattle.header_record.specs.Record.{frame_record}
use Rattle.header_state.specs.State.{frame_state}
use Rattle.grammar_tables.specs.Tables.{found_at}
use Rattle.grammar_settings.specs.Settings.{loop_filter_of, segmentation_of}
use Rattle.grammar_record.specs.Record.{frame_of, state_from}
use Rattle.header_parser.specs.Parts.{remembered_color}
use Rattle.header_parser.proofs.Flat.{flat_frame, width_from}

module _ (st : ReaderState) (profile : ℕ) (l : LeadValues) (g : SettingsValues) (c : ClosingValues) where
  abbrev slots : List FrameSize
  slots = st.reference_frame_sz

  abbrev lead : Lead
  lead = lead_of profile (remembered_color st) slots l

  abbrev settings : Settings
  settings = settings_of (lead_is_independent l) st.lf st.seg g

  pub frame_parts : (n : ℕ) → frame_of st profile (flat_frame l g c) n ≡ frame_record profile lead settings (closing_of (width_from slots l) c) n
  unfolding frame_of frame_record lead_of traits_of shot_of kind_of context_of color_of intra_color_of key_of intra_only_of inter_of sizes_of with_render render_of size_with_refs_of sources_of refs_of ref_of motion_of filter_of settings_over closing_of tiles_of found_at loop_filter_of segmentation_of
  frame_parts n =
      split (eqb l.traits.frame_type 0) (λ key. simp (key, width_from, lead_is_independent)) λ other.
      split (flag l.shot.kind.intra_only)
      (λ only. split (ltb 0 profile) (λ coded. simp (other, only, coded, width_from, lead_is_independent)) (λ fixed. simp (other, only, fixed, width_from, lead_is_independent))) λ inter.
      split (flag l.traits.error_resilient_mode) (λ alone. simp (other, inter, alone, width_from, lead_is_independent)) (λ kept. simp (other, inter, kept, width_from, lead_is_independent))

  pub state_parts : (n : ℕ) → state_from st profile (flat_frame l g c) (frame_of st profile (flat_frame l g c) n) ≡ frame_state st profile lead settings
  unfolding state_from frame_state frame_record lead_of shot_of kind_of
  state_parts n = rw (frame_parts n)
