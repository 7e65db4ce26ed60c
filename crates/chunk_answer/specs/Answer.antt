-- What a chunk is answered: docs/RULES.md, "Numbers a caller can get back".
-- Assumes nothing.
use Rattle.std.specs.Prelude.{ℕ, replicate}
use Rattle.base_bits.specs.Refusal.{refusal_number}
use Rattle.base_types.specs.Header.{default_header}
use Rattle.base_types.specs.declared.state.ReaderState.{ReaderState}
use Rattle.chunk_answer.specs.declared.Answer.{Answer}
use Rattle.chunk_answer.specs.declared.Answer.TheVariants as answer
use Rattle.chunk_answer.specs.declared.ChunkRead.{ChunkRead}

-- docs/RULES.md's number, 0 for a chunk that is accepted
abbrev pub chunk_number : Answer → ℕ
chunk_number (answer.Frames n) = 0
chunk_number answer.Empty = 1
chunk_number answer.Short = 2
chunk_number (answer.Past i) = 3
chunk_number (answer.Header i e) = refusal_number e

-- and the frame number that comes with it
abbrev pub chunk_frame : Answer → ℕ
chunk_frame (answer.Frames n) = 0
chunk_frame answer.Empty = 0
chunk_frame answer.Short = 0
chunk_frame (answer.Past i) = i
chunk_frame (answer.Header i e) = i

-- a refusal: no places, no headers, and the state as it was
abbrev pub refused_chunk : Answer → ReaderState → ChunkRead
refused_chunk a st = record { answer = a; at = replicate 8 0; size = replicate 8 0; headers = replicate 8 default_header; state = st }
