use native.Mathlib.Omega.{arith}
use Rattle.base_bytes.proofs.Rest.{left_all, left_more, left_none}
use Rattle.base_bytes.proofs.Little.{bytes_all, byte_more, bytes_none}
use Rattle.base_bytes.proofs.put_little.Goals as goal

pub loop-init : goal.loop-init
loop-init c = (omega arith, rw bytes_all left_all)

pub loop-preserved : goal.loop-preserved
loop-preserved c =
    let start = c.loop in
    (omega arith, left_more start.invariant.1 (byte_more _ _ _ c.loop-test.true) c.put_byte-next.ensures)

pub shape_of-out : goal.shape_of-out
shape_of-out c = c.loop.invariant.1.same

pub returns : goal.returns
returns c = left_none c.loop.invariant.1 (bytes_none _ _ _ (omega arith))
