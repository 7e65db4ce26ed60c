-- What the reader answers to a frame: the record and the state of the values that fit, or the refusal and nothing
-- changed.
-- Assumes nothing.
use Rattle.std.specs.Prelude.{ℕ, List}
use Rattle.base_syntax.specs.Reader.{Read, read, stopped}
use Rattle.base_types.specs.declared.state.ReaderState.{ReaderState}
use Rattle.grammar_tables.specs.Reading.{read_header}
use Rattle.grammar_record.specs.Record.{header_of, state_after}
use Rattle.header_answer.specs.Answer.{HeaderRead, accepted, refused_with}

-- reading: what it comes to: f makes an answer of its value and the place past it
abbrev pub outcome : {A : Type 0} → ReaderState → (A → ℕ → HeaderRead) → Read A → HeaderRead
outcome st f (read a p) = f a p
outcome st f (stopped w) = refused_with st w.refusal

-- the answer to a frame's bytes under a state
unfoldable pub parsed : List ℕ → ReaderState → HeaderRead
parsed s st = outcome st (λ v p. accepted (header_of st v) (state_after st v)) (read_header st.reference_frame_sz s 0)
