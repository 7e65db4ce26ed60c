-- What is said of a header, accepted or a refusal, and of a frame by where it lies.
-- Assumes nothing.
use Rattle.std.specs.Prelude.{ℕ, Result, Ok, Err}
use Rattle.base_bits.specs.declared.Refusal.{Refusal}
use Rattle.base_bits.specs.Refusal.{refusal_number}
use Rattle.header_verdict.specs.declared.FrameRefusal.{FrameRefusal}
use Rattle.header_verdict.specs.declared.FrameRefusal.TheVariants as refusal

pub data Verdict : Type 0 where
  Accepted : Verdict
  Refused : Refusal → Verdict

-- whether a frame lies in its chunk, and if so what is said of its header
pub data Place : Type 0 where
  Outside : Place
  Inside : Verdict → Place

-- what a Result says
abbrev pub verdict_of : {T : Type 0} → Result T Refusal → Verdict
verdict_of (Ok v) = Accepted
verdict_of (Err e) = Refused e

abbrev pub refused_place : FrameRefusal → Place
refused_place refusal.Outside = Outside
refused_place (refusal.Header e) = Inside (Refused e)

abbrev pub place_of : {T : Type 0} → Result T FrameRefusal → Place
place_of (Ok v) = Inside Accepted
place_of (Err e) = refused_place e

-- docs/RULES.md's number, and 0 for what is accepted
abbrev pub verdict_number : Verdict → ℕ
verdict_number Accepted = 0
verdict_number (Refused e) = refusal_number e

-- 3 for a frame that lies outside its chunk
abbrev pub place_number : Place → ℕ
place_number Outside = 3
place_number (Inside v) = verdict_number v

-- and the frame number that comes with it: a single frame is frame 0
abbrev pub place_frame : Place → ℕ
place_frame p = 0
