-- Demand 3, of the answer to a single frame of a chunk, at an offset and of a size, under a state st: docs/RULES.md's
-- numbers 3 to 6. No reader is named here.
-- Assumes nothing.
use Rattle.std.specs.Prelude.{ℕ, ◌-◌, ◌<◌, ◌≡◌, ◌⊎◌, List, length, take, drop}
use Rattle.base_bits.specs.declared.Refusal.TheVariants.{FrameMarker, SyncCode, PastEnd}
use Rattle.base_types.specs.declared.header.Header.{Header}
use Rattle.base_types.specs.declared.state.ReaderState.{ReaderState}
use Rattle.header_verdict.specs.Verdict.{place_number, place_frame}
use Rattle.header_answer.specs.Answer.{HeaderRead, accepted, refused_with}
use Rattle.header_parser.specs.Demand.{Demanded}
use Rattle.chunk_frame.specs.Place.{FrameRead, refused_frame, inside_frame}

-- r is a refusal with number n: frame number 0, no header, and the state before
pub record FrameRefused (n : ℕ) (st : ReaderState) (r : FrameRead) : Type 0 where
  pub number : place_number r.place ≡ n
  pub frame : place_frame r.place ≡ 0
  pub nothing : r ≡ refused_frame r.place st

module _ (chunk : List ℕ) (offset size : ℕ) where
  -- the frame lies outside its chunk
  abbrev pub LiesOutside : Type 0
  LiesOutside = (length chunk < offset) ⊎ (length chunk - offset < size)

  -- it doesn't, and h is what is demanded of the header of its bytes
  abbrev pub InsideDemanded : ReaderState → HeaderRead → Type 0
  InsideDemanded st h = (LiesOutside → ⊥) × Demanded (take size (drop offset chunk)) st h

  pub record FrameDemanded (st : ReaderState) (r : FrameRead) : Type 0 where
    pub row_3 : LiesOutside → FrameRefused 3 st r
    pub row_4 : InsideDemanded st (refused_with st FrameMarker) → FrameRefused 4 st r
    pub row_5 : InsideDemanded st (refused_with st SyncCode) → FrameRefused 5 st r
    pub row_6 : InsideDemanded st (refused_with st PastEnd) → FrameRefused 6 st r
    pub header : (h : Header) (after : ReaderState) → InsideDemanded st (accepted h after) → r ≡ inside_frame (accepted h after)
