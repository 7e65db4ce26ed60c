use native.Mathlib.Omega.{arith}
use mir.Syntax.{w16}
use Rattle.part_coded.proofs.Signed.{minus_fits, minus, plus}
use Rattle.part_coded.proofs.signed_16.Goals as goal

pub overflow_sub-result : goal.overflow_sub-result
overflow_sub-result c = minus_fits w16 c.args.magnitude (omega arith)

pub returns-then-negative : goal.returns-then-negative
returns-then-negative c = minus w16 c.args.magnitude (omega arith) _ c.if-negative.true

pub returns-else-negative : goal.returns-else-negative
returns-else-negative c = plus w16 c.args.magnitude (omega arith) _ c.if-negative.false
