-- What the reader answers to a chunk under a state: each frame is judged by its header's grammar alone.
-- Assumes nothing.
use Rattle.std.specs.Prelude.{ℕ, List}
use Rattle.base_types.specs.declared.state.ReaderState.{ReaderState}
use Rattle.header_parser.specs.Answer.{parsed}
use Rattle.chunk_answer.specs.declared.ChunkRead.{ChunkRead}
use Rattle.chunk_judged.specs.Answer.{judged_chunk}

abbrev pub chunk_of : List ℕ → ReaderState → ChunkRead
chunk_of s st = judged_chunk parsed s st
