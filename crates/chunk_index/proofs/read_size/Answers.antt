use native.Mathlib.Omega.{arith}
use Rattle.base_little.proofs.Bytes.{little_read}
use Rattle.chunk_index.proofs.read_size.Goals as goal

pub unwrap-requires : goal.unwrap-requires
unwrap-requires c = rw (little_read _ _ _ _ c.read_little.ensures (omega arith) c.requires.1)

pub returns : goal.returns
returns c = let e = little_read _ _ _ _ c.read_little.ensures (omega arith) c.requires.1 in cc
