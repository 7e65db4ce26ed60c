use mathlib.Core.Path.{◌∙◌}
use native.Mathlib.Omega.{arith}
use Rattle.chunk_index.proofs.Sizes.{size_place}
use Rattle.chunk_index.proofs.Walk.{walked_none, walked_more, walked_past, walked_all}
use Rattle.chunk_index.proofs.place_frames.Goals as goal

pub loop-i-init : goal.loop-i-init
loop-i-init c = walked_none _

pub overflow_mul-i : goal.overflow_mul-i
overflow_mul-i c = omega (arith, size_place c.args.n c.loop-i-test.true)

pub overflow_add-first : goal.overflow_add-first
overflow_add-first c = omega (arith, size_place c.args.n c.loop-i-test.true)

pub read_size-z-requires : goal.read_size-z-requires
read_size-z-requires c = (c.requires.0, omega (arith, size_place c.args.n c.loop-i-test.true))

pub returns-else-z-room : goal.returns-else-z-room
returns-else-z-room c = c.refusal.ensures ∙ walked_past c.loop-i.invariant c.loop-i-test.true _ c.read_size-z.ensures c.if-z-room.false

pub loop-i-preserved : goal.loop-i-preserved
loop-i-preserved c = walked_more c.loop-i.invariant c.loop-i-test.true _ c.read_size-z.ensures c.if-z-room.true

pub returns : goal.returns
returns c = walked_all c.loop-i.invariant (omega arith)
