use native.Mathlib.Omega.{arith}
use Rattle.base_little.proofs.Bytes.{little_wide, little_nothing, little_short, little_value}
use Rattle.base_little.proofs.read_little.Goals as goal

pub returns-then-n-gt8 : goal.returns-then-n-gt8
returns-then-n-gt8 c = little_wide _ _ _ (omega arith)

pub returns-then-n-eq0 : goal.returns-then-n-eq0
returns-then-n-eq0 c = little_nothing _ _ _ c.if-n-eq0.true

pub returns-then-at-s : goal.returns-then-at-s
returns-then-at-s c = little_short _ _ _ (omega arith) c.if-n-eq0.false (omega arith)

pub returns : goal.returns
returns c = little_value _ _ _ _ c.gather.ensures (omega arith) (omega arith)
