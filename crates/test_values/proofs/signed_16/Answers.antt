use Prim.Native.Nat.{◌+◌, ◌*◌, ◌%◌}
use native.Mathlib.Omega.{arith}
use mir.Syntax.{w16}
use Rattle.part_coded.proofs.Signed.{minus_fits}
use Rattle.test_values.proofs.Signed.{plus_by, minus_by}
use Rattle.test_values.proofs.signed_16.Goals as goal

pub overflow_sub-result : goal.overflow_sub-result
overflow_sub-result c = minus_fits w16 (c.args.high % 128 * 256 + c.args.low) (omega arith)

pub returns-in-0 : goal.returns-in-0
returns-in-0 c = plus_by w16 (c.args.high % 128 * 256 + c.args.low) (omega arith) 32768 c.args.sign c.in-0.is

pub returns-in-1 : goal.returns-in-1
returns-in-1 c = minus_by w16 (c.args.high % 128 * 256 + c.args.low) (omega arith) 32768 c.args.sign c.in-1.is
