-- Demand 3, of the answer to a chunk under a state: the index rule says where the frames lie, and the grammar what is
-- demanded of each. No reader is named here.
-- Assumes nothing.
use Rattle.std.specs.Prelude.{ℕ, List}
use Rattle.base_types.specs.declared.state.ReaderState.{ReaderState}
use Rattle.header_parser.specs.Demand.{Demanded}
use Rattle.chunk_answer.specs.declared.ChunkRead.{ChunkRead}
use Rattle.chunk_judged.specs.Demand.{JudgedDemanded}

abbrev pub ChunkDemanded : List ℕ → ReaderState → ChunkRead → Type 0
ChunkDemanded s st r = JudgedDemanded Demanded s st r
