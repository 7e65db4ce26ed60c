-- The theorems on chunks, for every byte string and every state.
-- Assumes nothing.
use Prim.Native.Nat.{ℕ}
use mathlib.Core.Path.{◌≡◌}
use mathlib.Core.List.{List}
use Rattle.base_types.specs.declared.state.ReaderState.{ReaderState}
use Rattle.header_parser.specs.Answer.{parsed}
use Rattle.header_parser.specs.Demand.{Demanded}
use Rattle.header_parser.proofs.Theorems as header
use Rattle.chunk_answer.specs.declared.ChunkRead.{ChunkRead}
use Rattle.chunk_judged.proofs.Demand as judged
use Rattle.chunk_judged.proofs.Demand.{Meets}
use Rattle.chunk_parser.specs.Answer.{chunk_of}
use Rattle.chunk_parser.specs.Demand.{ChunkDemanded}

-- the header's theorems, as what is shown of the judge
pub plain : Meets parsed Demanded
plain = record { demanded = header.demanded; no_other = header.no_other; refused_whole = header.refused_whole }

-- the answer is what demand 3 asks, and no other is
pub demanded : (s : List ℕ) (st : ReaderState) → ChunkDemanded s st (chunk_of s st)
demanded = judged.demanded parsed Demanded plain

pub no_other : (s : List ℕ) (st : ReaderState) (r : ChunkRead) → ChunkDemanded s st r → r ≡ chunk_of s st
no_other = judged.no_other parsed Demanded plain
