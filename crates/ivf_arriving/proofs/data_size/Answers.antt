use native.Mathlib.Omega.{arith}
use Rattle.base_little.proofs.Bytes.{little_read}
use Rattle.ivf_arriving.proofs.data_size.Goals as goal

pub unwrap-requires : goal.unwrap-requires
unwrap-requires c = rw (little_read _ 0 4 _ c.record_length.ensures (omega arith) (omega arith))

pub returns : goal.returns
returns c = let e = little_read _ 0 4 _ c.record_length.ensures (omega arith) (omega arith) in cc
