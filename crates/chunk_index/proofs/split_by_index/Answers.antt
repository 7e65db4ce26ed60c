use native.Mathlib.Omega.{arith}
use Rattle.chunk_index.proofs.Sizes.{sizes_small}
use Rattle.chunk_index.proofs.Cases.{announced_cut, announced_indexed, announced_whole}
use Rattle.chunk_index.proofs.split_by_index.Goals as goal

pub overflow_mul-index : goal.overflow_mul-index
overflow_mul-index c = omega (arith, sizes_small c.args.last c.as_size-count.ensures c.as_size-n.ensures)

pub overflow_add-index : goal.overflow_add-index
overflow_add-index c = omega (arith, sizes_small c.args.last c.as_size-count.ensures c.as_size-n.ensures)

pub returns-then-s-index : goal.returns-then-s-index
returns-then-s-index c = search announced_cut

pub returns-then-s-room : goal.returns-then-s-room
returns-then-s-room c = search announced_indexed

pub returns-else-s-room : goal.returns-else-s-room
returns-else-s-room c = search announced_whole
