-- What is answered to a chunk under a state, by a judge of its frames.
-- Assumes nothing.
use Rattle.std.specs.Prelude.{ℕ, List}
use Rattle.base_types.specs.Header.{default_header}
use Rattle.base_types.specs.declared.state.ReaderState.{ReaderState}
use Rattle.chunk_index.specs.declared.Answer.{Answer as SplitAnswer}
use Rattle.chunk_index.specs.declared.Answer.TheVariants as split
use Rattle.chunk_index.specs.declared.Split.{Split}
use Rattle.chunk_index.specs.Split.{filled, split_of}
use Rattle.chunk_answer.specs.declared.Answer.TheVariants as answer
use Rattle.chunk_answer.specs.declared.ChunkRead.{ChunkRead}
use Rattle.chunk_answer.specs.Answer.{refused_chunk}
use Rattle.chunk_judged.specs.Frames.{Judge, state_before, frame_read, FaultFound, none, fault, first_fault}

abbrev pub answered : ChunkRead → ReaderState → FaultFound → ChunkRead
answered r st none = r
answered r st (fault i e) = refused_chunk (answer.Header i e) st

module _ (judge : Judge) where
  -- n frames: their places and headers, and the state after the last
  abbrev pub accepted_chunk : List ℕ → Split → ReaderState → ℕ → ChunkRead
  accepted_chunk s p st n =
      record {
        answer = answer.Frames n;
        at = p.at;
        size = p.size;
        headers = filled default_header (λ i. (frame_read judge s p st i).header) n;
        state = state_before judge s p st n;
      }

  -- the rules' order: 1, 2 and 3 for all frames, then the headers in turn
  abbrev pub chunk_by : List ℕ → Split → ReaderState → SplitAnswer → ChunkRead
  chunk_by s p st split.Empty = refused_chunk answer.Empty st
  chunk_by s p st split.Short = refused_chunk answer.Short st
  chunk_by s p st (split.Past i) = refused_chunk (answer.Past i) st
  chunk_by s p st (split.Frames n) = answered (accepted_chunk s p st n) st (first_fault (λ i. (frame_read judge s p st i).verdict) 0 n)

  unfoldable pub judged_chunk : List ℕ → ReaderState → ChunkRead
  judged_chunk s st = chunk_by s (split_of s) st (split_of s).answer
