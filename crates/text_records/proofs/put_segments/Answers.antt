use native.Mathlib.Omega.{arith}
use Rattle.base_bytes.proofs.Rest.{left_all, left_more, left_none}
use Rattle.text_records.proofs.Segments.{line_more, line_none}
use Rattle.text_records.proofs.put_segments.Goals as goal

pub loop-i-init : goal.loop-i-init
loop-i-init c = left_all

pub loop-i-preserved : goal.loop-i-preserved
loop-i-preserved c = left_more c.loop-i.invariant (line_more _ _ _ (omega arith)) c.put_segment-next.ensures

pub shape_of-out : goal.shape_of-out
shape_of-out c = c.loop-i.invariant.same

pub returns : goal.returns
returns c = left_none c.loop-i.invariant (line_none _ _ (omega arith))
