-- What a frame's header is answered: accepted, or a refusal.
-- Assumes nothing.
use Rattle.std.specs.Prelude.{Result, Ok, Err}
use Rattle.base_bits.specs.declared.Refusal.{Refusal}
use Rattle.base_types.specs.Header.{default_header}
use Rattle.base_types.specs.declared.header.Header.{Header}
use Rattle.base_types.specs.declared.state.ReaderState.{ReaderState}
use Rattle.header_verdict.specs.Verdict.{Verdict, Accepted, Refused}

pub record HeaderRead : Type 0 where
  pub verdict : Verdict
  pub header : Header
  pub state : ReaderState

abbrev pub accepted : Header → ReaderState → HeaderRead
accepted h st = record { verdict = Accepted; header = h; state = st }

-- a refusal: the default header, and the state as it was
abbrev pub refused_with : ReaderState → Refusal → HeaderRead
refused_with st e = record { verdict = Refused e; header = default_header; state = st }

-- what a Result says, with the state after
abbrev pub header_told : ReaderState → Result Header Refusal → HeaderRead
header_told st (Ok h) = accepted h st
header_told st (Err e) = refused_with st e
