-- The theorems on headers, for every frame and every state.
-- Assumes nothing.
use Prim.Native.Nat.{ℕ, ◌<◌, ◌^◌}
use mathlib.Core.Path.{◌≡◌, refl, sym, ap, ◌∙◌}
use mathlib.Core.Bool.{true, false}
use mathlib.Core.Logic.{◌↔◌}
use mathlib.Core.List.{List}
use native.Mathlib.Omega.{arith}
use lib.ListN.{length}
use Rattle.std.specs.Prelude.{Err}
use Rattle.base_bits.specs.declared.Refusal.{Refusal}
use Rattle.base_bits.specs.declared.Refusal.TheVariants.{FrameMarker, SyncCode, PastEnd}
use Rattle.base_bits.specs.Refusal.{Mark, frame_marker, sync_code, mark_refusal}
use Rattle.base_syntax.specs.Syntax.{flat, size, Ranged}
use Rattle.base_syntax.specs.Fault.{Fits, StopsIn, OtherNumber}
use Rattle.base_syntax.specs.Reader.{Read, read, stopped, over}
use Rattle.base_bits.proofs.Begins.{begins}
use Rattle.base_syntax.proofs.Fields.{length_flat}
use Rattle.base_syntax.proofs.Laws.{unique}
use Rattle.base_syntax.proofs.Stopped.{cut_begins, mark_begins}
use Rattle.base_syntax.proofs.Told.{past_end_exactly, mark_exactly}
use Rattle.base_size.specs.declared.FrameSize.{FrameSize}
use Rattle.base_types.specs.declared.state.ReaderState.{ReaderState}
use Rattle.header_verdict.specs.Verdict.{Verdict, Accepted, Refused}
use Rattle.grammar_tables.specs.Header.{HeaderValues, shows_existing, header_fields, Spelled}
use Rattle.grammar_record.specs.Record.{length_of, frame_of, header_of, state_after}
use Rattle.grammar_tables.specs.Reading.{read_header}
use Rattle.grammar_tables.proofs.Header.{header_reads, header_size_lem}
use Rattle.header_answer.specs.Answer.{accepted, refused_with, HeaderRead}
use Rattle.header_parser.specs.Answer.{outcome, parsed}
use Rattle.header_parser.specs.Demand.{IsSpelled, AtFault, Demanded}

module _ (s : List ℕ) (slots : List FrameSize) (v : HeaderValues) where
  short_enough : length (flat (header_fields slots v)) < 2 ^ 64
  short_enough = omega (arith, length_flat (header_fields slots v), header_size_lem slots v)

  fits_spelled : Fits s 0 (header_fields slots v) → Spelled slots s v
  fits_spelled h = record { ranged = h.ranged; begins = (begins s (flat (header_fields slots v)) short_enough).0 h.stands }

  spelled_fits : Spelled slots s v → Fits s 0 (header_fields slots v)
  spelled_fits h = record { ranged = h.ranged; stands = (begins s (flat (header_fields slots v)) short_enough).1 h.begins }

-- never do two sets of field values fit
pub one_set : (s : List ℕ) (slots : List FrameSize) (v w : HeaderValues) → Spelled slots s v → Spelled slots s w → v ≡ w
one_set s slots v w h k = unique (header_reads slots) s 0 v w (spelled_fits s slots v h) (spelled_fits s slots w k)

module _ (s : List ℕ) (st : ReaderState) where
  abbrev slots : List FrameSize
  slots = st.reference_frame_sz

  abbrev answer : HeaderValues → ℕ → HeaderRead
  answer v p = accepted (header_of st v) (state_after st v)

  -- the record and the state after are those of the values that fit
  pub accepts : (v : HeaderValues) → Spelled slots s v → parsed s st ≡ accepted (header_of st v) (state_after st v)
  unfolding parsed
  accepts v h = rw ((header_reads slots).complete s 0 v tt (spelled_fits s slots v h))

  -- accepted exactly if the frame's bits begin with a spelling of some field values under the remembered sizes
  pub accepted_exactly : ((parsed s st).verdict ≡ Accepted) ↔ IsSpelled slots s
  unfolding parsed
  accepted_exactly = (λ h. to (read_header slots s 0) refl h, λ h. ap (λ (r : HeaderRead). r.verdict) (accepts h.0 h.1))
    where
      to : (m : Read HeaderValues) → read_header slots s 0 ≡ m → (outcome st answer m).verdict ≡ Accepted → IsSpelled slots s
      to (read v p) e h = (v, fits_spelled s slots v ((header_reads slots).sound s 0 v p e).1)
      to (stopped w) e h = let z : ◌≡◌ {A = ℕ} 0 1 = cc in absurd (omega arith)

  -- a refusal has the default header, and the state as it was
  pub refused_whole : (e : Refusal) → (parsed s st).verdict ≡ Refused e → parsed s st ≡ refused_with st e
  unfolding parsed
  refused_whole e h = go (read_header slots s 0) h
    where
      go : (m : Read HeaderValues) → (outcome st answer m).verdict ≡ Refused e → outcome st answer m ≡ refused_with st e
      go (read v p) h = let z : ◌≡◌ {A = ℕ} 0 1 = cc in absurd (omega arith)
      go (stopped w) h = let we : w.refusal ≡ e = cc in rw we

  -- the code's refusal is the reading's
  told : (e : Refusal) → ((parsed s st).verdict ≡ Refused e) ↔ (over (λ (v : HeaderValues). v) (read_header slots s 0) ≡ Err e)
  unfolding parsed
  told e = (λ h. to (read_header slots s 0) h, λ h. from (read_header slots s 0) h)
    where
      to : (m : Read HeaderValues) → (outcome st answer m).verdict ≡ Refused e → over (λ (v : HeaderValues). v) m ≡ Err e
      to (read v p) h = let z : ◌≡◌ {A = ℕ} 0 1 = cc in absurd (omega arith)
      to (stopped w) h = let we : w.refusal ≡ e = cc in rw we

      from : (m : Read HeaderValues) → over (λ (v : HeaderValues). v) m ≡ Err e → (outcome st answer m).verdict ≡ Refused e
      from (read v p) h = let z : ◌≡◌ {A = ℕ} 0 1 = cc in absurd (omega arith)
      from (stopped w) h = let we : w.refusal ≡ e = cc in rw we

  -- refused with 4, 5 or 6 exactly if the fields of some values are at fault for it
  pub refused_exactly : (e : Refusal) → ((parsed s st).verdict ≡ Refused e) ↔ AtFault slots s e
  refused_exactly e = (λ h. (read_at_fault e).0 ((told e).0 h), λ h. (told e).1 ((read_at_fault e).1 h))
    where
      few : (v : HeaderValues) → size (header_fields slots v) < 2 ^ 64
      few v = omega (arith, header_size_lem slots v)

      marked : (k : Mark) → (over (λ (v : HeaderValues). v) (read_header slots s 0) ≡ Err (mark_refusal k))
          ↔ ((v : HeaderValues) × Ranged (header_fields slots v) × StopsIn s (header_fields slots v) (OtherNumber s k))
      marked k =
          let x = mark_exactly (header_reads slots) (λ v. v) s 0 k in (
            λ h. let m = x.0 h in (m.0, m.1, (mark_begins s (header_fields slots m.0) (few m.0) k).0 m.2),
            λ h. x.1 (h.0, h.1, (mark_begins s (header_fields slots h.0) (few h.0) k).1 h.2),
          )

      read_at_fault : (e : Refusal) → (over (λ (v : HeaderValues). v) (read_header slots s 0) ≡ Err e) ↔ AtFault slots s e
      read_at_fault FrameMarker = marked frame_marker
      read_at_fault SyncCode = marked sync_code
      read_at_fault PastEnd =
          let x = past_end_exactly (header_reads slots) (λ v. v) s 0 in (
            λ h. let m = x.0 h in (m.0, m.1, (cut_begins s (header_fields slots m.0) (few m.0)).0 m.2),
            λ h. x.1 (h.0, h.1, (cut_begins s (header_fields slots h.0) (few h.0)).1 h.2),
          )

  -- the answer is what demand 3 asks, and no other is
  pub demanded : Demanded s st (parsed s st)
  demanded = record { spelled = accepts; at_fault = λ e h. refused_whole e ((refused_exactly e).1 h) }

  pub no_other : (r : HeaderRead) → Demanded s st r → r ≡ parsed s st
  no_other r h = go (parsed s st).verdict refl
    where
      go : (x : Verdict) → (parsed s st).verdict ≡ x → r ≡ parsed s st
      go Accepted e = let m = accepted_exactly.0 e in h.spelled m.0 m.1 ∙ sym (accepts m.0 m.1)
      go (Refused u) e = h.at_fault u ((refused_exactly u).0 e) ∙ sym (refused_whole u e)

-- the stated length: 0 for show-existing, and else the spelling's bits in whole bytes
pub length_shown : (st : ReaderState) (v : HeaderValues) → shows_existing v ≡ true → (header_of st v).uncompressed_header_size_in_bytes ≡ 0
unfolding header_of
length_shown st v h = rw h

pub length_stated : (st : ReaderState) (v : HeaderValues) → shows_existing v ≡ false
    → (header_of st v).uncompressed_header_size_in_bytes ≡ length_of (length (flat (header_fields st.reference_frame_sz v)))
unfolding header_of frame_of
length_stated st v h = rw h
