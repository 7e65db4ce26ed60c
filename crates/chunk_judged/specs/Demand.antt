-- What is demanded of the answer to a chunk s under a state st: docs/RULES.md, "Numbers a caller can get back", row by
-- row. What is demanded of the answer to a frame is left open.
-- Assumes nothing.
use Rattle.std.specs.Prelude.{ℕ, ◌+◌, ◌<◌, ◌≡◌, List, take, drop}
use Rattle.base_bits.specs.declared.Refusal.{Refusal}
use Rattle.base_bits.specs.declared.Refusal.TheVariants.{FrameMarker, SyncCode, PastEnd}
use Rattle.base_types.specs.Header.{default_header}
use Rattle.base_types.specs.declared.header.Header.{Header}
use Rattle.base_types.specs.declared.state.ReaderState.{ReaderState}
use Rattle.header_answer.specs.Answer.{HeaderRead, accepted, refused_with}
use Rattle.chunk_index.specs.Layout.{Layout, layout_of, start}
use Rattle.chunk_index.specs.Split.{filled}
use Rattle.chunk_index.specs.Table.{NoBytes, Cut, FirstPast, AllFit}
use Rattle.chunk_answer.specs.declared.Answer.TheVariants.{Frames}
use Rattle.chunk_answer.specs.declared.ChunkRead.{ChunkRead}
use Rattle.chunk_answer.specs.Answer.{chunk_number, chunk_frame, refused_chunk}

-- r is a refusal with number n and frame number i: no frames, and the state before
pub record ChunkRefused (n i : ℕ) (st : ReaderState) (r : ChunkRead) : Type 0 where
  pub number : chunk_number r.answer ≡ n
  pub frame : chunk_frame r.answer ≡ i
  pub nothing : r ≡ refused_chunk r.answer st

-- the frames that lie so: their places, their headers, and the state after the last
abbrev pub frames_read : Layout → (ℕ → Header) → ReaderState → ChunkRead
frames_read l headers st =
    record {
      answer = Frames l.frames;
      at = filled 0 (start l.size) l.frames;
      size = filled 0 l.size l.frames;
      headers = filled default_header headers l.frames;
      state = st;
    }

-- the bytes of frame i
abbrev pub frame_at : List ℕ → ℕ → List ℕ
frame_at s i = take ((layout_of s).size i) (drop (start (layout_of s).size i) s)

-- what is demanded of the answer to a frame's bytes under a state
abbrev pub FrameDemand : Type 1
FrameDemand = List ℕ → ReaderState → HeaderRead → Type 0

module _ (Demand : FrameDemand) (s : List ℕ) (st : ReaderState) where
  -- the first n frames are accepted in turn: the first under st, and each under the state that the one before it left
  pub record InTurn (n : ℕ) (headers : ℕ → Header) (states : ℕ → ReaderState) : Type 0 where
    pub from : states 0 ≡ st
    pub each : (i : ℕ) → i < n → Demand (frame_at s i) (states i) (accepted (headers i) (states (i + 1)))

  -- the frames before frame i are accepted in turn, and frame i is refused with e
  pub record HeaderRefused (i : ℕ) (e : Refusal) : Type 0 where
    pub fit : AllFit s
    pub among : i < (layout_of s).frames
    pub headers : ℕ → Header
    pub states : ℕ → ReaderState
    pub earlier : InTurn i headers states
    pub refused : Demand (frame_at s i) (states i) (refused_with (states i) e)

  pub record JudgedDemanded (r : ChunkRead) : Type 0 where
    pub row_1 : NoBytes s → ChunkRefused 1 0 st r
    pub row_2 : Cut s → ChunkRefused 2 0 st r
    pub row_3 : (i : ℕ) → (NoBytes s → ⊥) → (Cut s → ⊥) → FirstPast (layout_of s) i → ChunkRefused 3 i st r
    pub row_4 : (i : ℕ) → HeaderRefused i FrameMarker → ChunkRefused 4 i st r
    pub row_5 : (i : ℕ) → HeaderRefused i SyncCode → ChunkRefused 5 i st r
    pub row_6 : (i : ℕ) → HeaderRefused i PastEnd → ChunkRefused 6 i st r
    -- a chunk to which 1 to 3 don't apply, and whose headers are all accepted in turn
    pub frames : (headers : ℕ → Header) (states : ℕ → ReaderState) → AllFit s → InTurn (layout_of s).frames headers states
        → r ≡ frames_read (layout_of s) headers (states (layout_of s).frames)
