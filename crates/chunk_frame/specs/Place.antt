-- What is answered to a frame of a chunk, at an offset and of a size.
-- Assumes nothing.
use Rattle.std.specs.Prelude.{ℕ, List, take, drop, Result, Ok, Err}
use Rattle.base_shared.specs.Choice.{pick}
use Rattle.base_types.specs.Header.{default_header}
use Rattle.base_types.specs.declared.header.Header.{Header}
use Rattle.base_types.specs.declared.state.ReaderState.{ReaderState}
use Rattle.header_parser.specs.Answer.{parsed}
use Rattle.header_answer.specs.Answer.{HeaderRead, accepted}
use Rattle.header_verdict.specs.declared.FrameRefusal.{FrameRefusal}
use Rattle.header_verdict.specs.Verdict.{Place, Outside, Inside, refused_place}
use Rattle.base_shared.specs.Lists.{inside}

pub record FrameRead : Type 0 where
  pub place : Place
  pub header : Header
  pub state : ReaderState

-- a refusal: the default header, and the state as it was
abbrev pub refused_frame : Place → ReaderState → FrameRead
refused_frame p st = record { place = p; header = default_header; state = st }

abbrev pub inside_frame : HeaderRead → FrameRead
inside_frame r = record { place = Inside r.verdict; header = r.header; state = r.state }

-- what a Result says, with the state after
abbrev pub frame_told : ReaderState → Result Header FrameRefusal → FrameRead
frame_told st (Ok h) = inside_frame (accepted h st)
frame_told st (Err e) = refused_frame (refused_place e) st

-- the code's answer
unfoldable pub frame_placed : List ℕ → ℕ → ℕ → ReaderState → FrameRead
frame_placed chunk offset size st = pick (inside chunk offset size) (inside_frame (parsed (take size (drop offset chunk)) st)) (refused_frame Outside st)
