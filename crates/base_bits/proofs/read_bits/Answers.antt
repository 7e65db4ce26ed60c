use native.Mathlib.Omega.{arith}
use lib.Pow.{pow_pos}
use Rattle.base_bits.specs.Bit.{reach}
use Rattle.base_bits.proofs.Number.{read_value, read_none, read_short, read_wide}
use Rattle.base_bits.proofs.Gather.{one_shl, cut_fits, field_taken}
use Rattle.base_bits.proofs.read_bits.Goals as goal

pub returns-then-n-gt-WIDEST : goal.returns-then-n-gt-WIDEST
returns-then-n-gt-WIDEST c = read_wide _ _ _ (omega arith)

pub returns-then-n-eq0 : goal.returns-then-n-eq0
returns-then-n-eq0 c = rw c.if-n-eq0.true (read_none _ _)

pub returns-then-q-s : goal.returns-then-q-s
unfolding reach
returns-then-q-s c = read_short _ _ _ (omega arith) (omega arith) (omega arith)

pub returns-then-count-s : goal.returns-then-count-s
unfolding reach
returns-then-count-s c = read_short _ _ _ (omega arith) (omega arith) (omega arith)

pub returns-then-n-at : goal.returns-then-n-at
unfolding reach
returns-then-n-at c = read_short _ _ _ (omega arith) (omega arith) (omega arith)

pub whole_bytes-requires : goal.whole_bytes-requires
whole_bytes-requires c = (omega arith, omega arith)

pub nonzero_rem-v : goal.nonzero_rem-v
nonzero_rem-v c = let n = c.args.n in rw (one_shl n (omega arith)) (pow_pos n)

pub overflow_cast-result : goal.overflow_cast-result
overflow_cast-result c = cut_fits _ _ (omega arith)

pub returns : goal.returns
unfolding reach
returns c = read_value _ _ _ (field_taken _ _ _ (omega arith) c.whole_bytes.ensures) (omega arith) (omega arith)
