-- What the code answers, from each of its reads on.
-- Assumes nothing.
use Prim.Native.Nat.{ℕ}
use mathlib.Core.Path.{◌≡◌, sym, ap}
use mathlib.Core.Bool.{Bool, true, false}
use mathlib.Core.List.{List}
use Rattle.std.specs.Prelude.{Result}
use Rattle.std.specs.Result.{IsErrAnd, result_from_control_flow}
use Rattle.std.proofs.Common.{Continue, Break}
use Rattle.base_bits.specs.declared.Cursor.{Cursor}
use Rattle.base_bits.specs.declared.Refusal.{Refusal}
use Rattle.base_syntax.specs.Reader.{over}
use Rattle.base_shared.specs.Choice.{pick}
use Rattle.base_types.specs.declared.header.Header.{Header}
use Rattle.base_types.specs.declared.state.ReaderState.{ReaderState}
use Rattle.part_opening.specs.declared.Opening.{Opening}
use Rattle.part_opening.specs.Opening.{read_opening, opening_of}
use Rattle.part_color.specs.declared.Color.{Color}
use Rattle.header_lead.specs.declared.Lead.{Lead}
use Rattle.header_lead.specs.Lead.{read_lead, lead_of}
use Rattle.header_tail.specs.declared.Settings.{Settings}
use Rattle.header_tail.specs.declared.Closing.{Closing}
use Rattle.header_tail.specs.Settings.{read_settings, settings_of}
use Rattle.header_tail.specs.Closing.{read_closing, closing_of}
use Rattle.header_record.specs.Record.{independent, cut_length, frame_record}
use Rattle.header_state.specs.State.{frame_state}
use Rattle.header_answer.specs.Answer.{HeaderRead, accepted, header_told}
use Rattle.header_parser.specs.Parts.{remembered_color, shown_header}
use Rattle.header_parser.proofs.Outcomes.{onward, step, stop}

abbrev pub width_of : Lead → ℕ
width_of l = l.shot.picture.sizes.frame.width

module _ (st : ReaderState) where
  abbrev pub finished : ℕ → Lead → Settings → List ℕ → ℕ → HeaderRead
  finished profile l g s p = onward st (λ v q. accepted (frame_record profile l g v (cut_length q)) (frame_state st profile l g)) (over (closing_of (width_of l)) (read_closing (width_of l) s p))

  abbrev pub settled : ℕ → Lead → List ℕ → ℕ → HeaderRead
  settled profile l s p = onward st (λ g q. finished profile l g s q) (over (settings_of (independent l) st.lf st.seg) (read_settings s p))

  abbrev pub framed : ℕ → List ℕ → ℕ → HeaderRead
  framed profile s p = onward st (λ l q. settled profile l s q) (over (lead_of profile (remembered_color st) st.reference_frame_sz) (read_lead profile s p))

  abbrev pub opened : List ℕ → HeaderRead
  opened s = onward st (λ o q. pick o.show_existing_frame (accepted (shown_header o) st) (framed o.profile s q)) (over opening_of (read_opening s 0))

  -- past the opening, and at its refusal
  module _ (s : List ℕ) (x : Cursor) (ex : x ≡ record { at = 0 }) (r : Result (Opening × Cursor) Refusal) (e : r ≡ over opening_of (read_opening s x.at)) {b : _} (d : r ≡ result_from_control_flow b) where
    pub opened_stop : {z : _} (o : Result Header Refusal) → b ≡ Break z → IsErrAnd o (λ w. w ≡ z.0) → header_told st o ≡ opened s
    opened_stop = stop st _ (rw ex at e) d

    pub opened_shown : (o : Opening) (c : Cursor) (h : Header) → b ≡ Continue (o, c) → o.show_existing_frame ≡ true → h ≡ shown_header o → accepted h st ≡ opened s
    opened_shown o c h t f eh = step st _ (rw ex at e) d t (rw eh (ap (λ b. pick b (accepted (shown_header o) st) (framed o.profile s c.at)) (sym f)))

    pub opened_frame : (o : Opening) (c : Cursor) (y : HeaderRead) → b ≡ Continue (o, c) → o.show_existing_frame ≡ false → y ≡ framed o.profile s c.at → y ≡ opened s
    opened_frame o c y t f ey = step st _ (rw ex at e) d t (rw f ey)

  module _ (profile : ℕ) (s : List ℕ) (p : ℕ) where
    module _ (x : Color) (ex : x ≡ remembered_color st) (r : Result (Lead × Cursor) Refusal) (e : r ≡ over (lead_of profile x st.reference_frame_sz) (read_lead profile s p)) {b : _} (d : r ≡ result_from_control_flow b) where
      pub lead_stop : {z : _} (o : Result Header Refusal) → b ≡ Break z → IsErrAnd o (λ w. w ≡ z.0) → header_told st o ≡ framed profile s p
      lead_stop = stop st _ (rw ex at e) d

      pub lead_step : (l : Lead) (c : Cursor) (y : HeaderRead) → b ≡ Continue (l, c) → y ≡ settled profile l s c.at → y ≡ framed profile s p
      lead_step l c y = step st _ (rw ex at e) d

    module _ (l : Lead) (i : Bool) (ei : i ≡ independent l) (r : Result (Settings × Cursor) Refusal) (e : r ≡ over (settings_of i st.lf st.seg) (read_settings s p)) {b : _} (d : r ≡ result_from_control_flow b) where
      pub settings_stop : {z : _} (o : Result Header Refusal) → b ≡ Break z → IsErrAnd o (λ w. w ≡ z.0) → header_told st o ≡ settled profile l s p
      settings_stop = stop st _ (rw ei at e) d

      pub settings_step : (g : Settings) (c : Cursor) (y : HeaderRead) → b ≡ Continue (g, c) → y ≡ finished profile l g s c.at → y ≡ settled profile l s p
      settings_step g c y = step st _ (rw ei at e) d

    module _ (l : Lead) (g : Settings) (r : Result (Closing × Cursor) Refusal) (e : r ≡ over (closing_of (width_of l)) (read_closing (width_of l) s p)) {b : _} (d : r ≡ result_from_control_flow b) where
      pub closing_stop : {z : _} (o : Result Header Refusal) → b ≡ Break z → IsErrAnd o (λ w. w ≡ z.0) → header_told st o ≡ finished profile l g s p
      closing_stop = stop st _ e d

      pub closing_read : (v : Closing) (c : Cursor) (h : Header) (x : ReaderState) → b ≡ Continue (v, c) → h ≡ frame_record profile l g v (cut_length c.at) → x ≡ frame_state st profile l g → accepted h x ≡ finished profile l g s p
      closing_read v c h x t eh ex = step st _ e d t (rw (eh, ex))
