-- The frames of a chunk, each under the state that the frames before it left: docs/RULES.md, "Numbers a caller can
-- get back". Who judges a frame is left open.
-- Assumes nothing.
use Rattle.std.specs.Prelude.{ℕ, zero, suc, ◌+◌, List, get_or, take, drop}
use Rattle.base_bits.specs.declared.Refusal.{Refusal}
use Rattle.base_types.specs.declared.state.ReaderState.{ReaderState}
use Rattle.header_verdict.specs.Verdict.{Verdict, Accepted, Refused}
use Rattle.header_answer.specs.Answer.{HeaderRead}
use Rattle.chunk_index.specs.declared.Split.{Split}

-- what is answered to a frame's bytes under a state
abbrev pub Judge : Type 0
Judge = List ℕ → ReaderState → HeaderRead

-- the bytes of frame i, where it is placed
abbrev pub frame_bytes : List ℕ → Split → ℕ → List ℕ
frame_bytes s p i = take (get_or p.size i 0) (drop (get_or p.at i 0) s)

module _ (judge : Judge) where
  -- the state before frame i, which is the one after the i frames before it
  unfoldable pub state_before : List ℕ → Split → ReaderState → ℕ → ReaderState
  state_before s p st zero = st
  state_before s p st (suc i) = (judge (frame_bytes s p i) (state_before s p st i)).state

  -- what the header of frame i is answered
  unfoldable pub frame_read : List ℕ → Split → ReaderState → ℕ → HeaderRead
  frame_read s p st i = judge (frame_bytes s p i) (state_before s p st i)

-- whether some header is refused: the first that is, and why
pub data FaultFound : Type 0 where
  none : FaultFound
  fault : ℕ → Refusal → FaultFound

abbrev pub fault_at : ℕ → Verdict → FaultFound → FaultFound
fault_at i Accepted later = later
fault_at i (Refused e) later = fault i e

-- the first refusal among n frames from i on, of which v is the verdict
unfoldable pub first_fault : (ℕ → Verdict) → ℕ → ℕ → FaultFound
first_fault v i zero = none
first_fault v i (suc n) = fault_at i (v i) (first_fault v (i + 1) n)
