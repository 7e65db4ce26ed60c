use Prim.Native.Nat.{◌%◌}
use native.Mathlib.Omega.{arith}
use mir.Syntax.{w8}
use Rattle.part_coded.proofs.Signed.{minus_fits}
use Rattle.test_values.proofs.Signed.{plus_by, minus_by}
use Rattle.test_values.proofs.signed_8.Goals as goal

pub overflow_sub-result : goal.overflow_sub-result
overflow_sub-result c = minus_fits w8 (c.args.magnitude % 128) (omega arith)

pub returns-in-0 : goal.returns-in-0
returns-in-0 c = plus_by w8 (c.args.magnitude % 128) (omega arith) 128 c.args.sign c.in-0.is

pub returns-in-1 : goal.returns-in-1
returns-in-1 c = minus_by w8 (c.args.magnitude % 128) (omega arith) 128 c.args.sign c.in-1.is
