-- Demand 3, of the answer to a frame's bytes s under a state: what is spelled there is accepted, and what is at fault
-- is refused. No reader is named here.
-- Assumes nothing.
use Rattle.std.specs.Prelude.{ℕ, ◌≡◌, List}
use Rattle.base_bits.specs.declared.Refusal.{Refusal}
use Rattle.base_bits.specs.declared.Refusal.TheVariants.{FrameMarker, SyncCode, PastEnd}
use Rattle.base_bits.specs.Refusal.{frame_marker, sync_code}
use Rattle.base_syntax.specs.Syntax.{Field, Ranged}
use Rattle.base_syntax.specs.Fault.{StopsIn, PastLast, OtherNumber}
use Rattle.base_size.specs.declared.FrameSize.{FrameSize}
use Rattle.base_types.specs.declared.state.ReaderState.{ReaderState}
use Rattle.grammar_tables.specs.Header.{HeaderValues, header_fields, Spelled}
use Rattle.grammar_record.specs.Record.{header_of, state_after}
use Rattle.header_answer.specs.Answer.{HeaderRead, accepted, refused_with}

-- some values are spelled there, under the remembered sizes
abbrev pub IsSpelled : List FrameSize → List ℕ → Type 0
IsSpelled slots s = (v : HeaderValues) × Spelled slots s v

-- the fields are at fault: 4 and 5 for a mark with another number, 6 for a field that runs past the last bit, the
-- fields before it being well spelled
abbrev pub StopsFor : Refusal → List ℕ → List Field → Type 0
StopsFor FrameMarker s fs = StopsIn s fs (OtherNumber s frame_marker)
StopsFor SyncCode s fs = StopsIn s fs (OtherNumber s sync_code)
StopsFor PastEnd s fs = StopsIn s fs (PastLast s)

-- and so are those of some values, each in range
abbrev pub AtFault : List FrameSize → List ℕ → Refusal → Type 0
AtFault slots s e = (v : HeaderValues) × Ranged (header_fields slots v) × StopsFor e s (header_fields slots v)

pub record Demanded (s : List ℕ) (st : ReaderState) (r : HeaderRead) : Type 0 where
  -- the record and the state after are those of the values that fit
  pub spelled : (v : HeaderValues) → Spelled st.reference_frame_sz s v → r ≡ accepted (header_of st v) (state_after st v)
  -- a refusal has the default header, and the state as it was
  pub at_fault : (e : Refusal) → AtFault st.reference_frame_sz s e → r ≡ refused_with st e
