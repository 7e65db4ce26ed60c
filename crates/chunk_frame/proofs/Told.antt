-- What is told of an answer, a header's or a frame's, and of the state after it, fixes both.
-- Assumes nothing.
use mathlib.Core.Path.{◌≡◌, refl, sym, ap, ◌∙◌}
use Rattle.std.specs.Prelude.{Result, Ok, Err}
use Rattle.base_bits.specs.declared.Refusal.{Refusal}
use Rattle.base_types.specs.declared.header.Header.{Header}
use Rattle.base_types.specs.declared.state.ReaderState.{ReaderState}
use Rattle.header_verdict.specs.declared.FrameRefusal.{FrameRefusal}
use Rattle.header_verdict.specs.declared.FrameRefusal.TheVariants as refusal
use Rattle.header_verdict.specs.Verdict.{Verdict, Accepted, Refused, Place, Outside, Inside, verdict_of, place_of}
use Rattle.header_answer.specs.Answer.{HeaderRead, header_told}
use Rattle.chunk_frame.specs.Place.{FrameRead, frame_told}

-- the header's answer that has this verdict and header
abbrev as_header : Verdict → Header → Result Header Refusal
as_header Accepted h = Ok h
as_header (Refused e) h = Err e

header_back : (st : ReaderState) (r : Result Header Refusal) → as_header (header_told st r).verdict (header_told st r).header ≡ r
header_back st (Ok h) = refl
header_back st (Err e) = refl

header_state : (st : ReaderState) (r : Result Header Refusal) → (header_told st r).state ≡ st
header_state st (Ok h) = refl
header_state st (Err e) = refl

pub one_header_told : (s t : ReaderState) (r q : Result Header Refusal) → header_told s r ≡ header_told t q → (r ≡ q) × (s ≡ t)
one_header_told s t r q e = (
  sym (header_back s r) ∙ ap (λ (a : HeaderRead). as_header a.verdict a.header) e ∙ header_back t q,
  sym (header_state s r) ∙ ap (λ (a : HeaderRead). a.state) e ∙ header_state t q,
)

-- the frame's answer that has this place and header
abbrev as_frame : Place → Header → Result Header FrameRefusal
as_frame Outside h = Err refusal.Outside
as_frame (Inside Accepted) h = Ok h
as_frame (Inside (Refused e)) h = Err (refusal.Header e)

frame_back : (st : ReaderState) (r : Result Header FrameRefusal) → as_frame (frame_told st r).place (frame_told st r).header ≡ r
frame_back st (Ok h) = refl
frame_back st (Err refusal.Outside) = refl
frame_back st (Err (refusal.Header e)) = refl

frame_state : (st : ReaderState) (r : Result Header FrameRefusal) → (frame_told st r).state ≡ st
frame_state st (Ok h) = refl
frame_state st (Err refusal.Outside) = refl
frame_state st (Err (refusal.Header e)) = refl

pub one_frame_told : (s t : ReaderState) (r q : Result Header FrameRefusal) → frame_told s r ≡ frame_told t q → (r ≡ q) × (s ≡ t)
one_frame_told s t r q e = (
  sym (frame_back s r) ∙ ap (λ (a : FrameRead). as_frame a.place a.header) e ∙ frame_back t q,
  sym (frame_state s r) ∙ ap (λ (a : FrameRead). a.state) e ∙ frame_state t q,
)

-- what an answer's number goes by is what is told of it
pub verdict_told : (st : ReaderState) (r : Result Header Refusal) → (header_told st r).verdict ≡ verdict_of r
verdict_told st (Ok h) = refl
verdict_told st (Err e) = refl

pub place_told : (st : ReaderState) (r : Result Header FrameRefusal) → (frame_told st r).place ≡ place_of r
place_told st (Ok h) = refl
place_told st (Err e) = refl
