use Rattle.chunk_index.proofs.Walk.{one_placed}
use Rattle.chunk_index.proofs.one_frame.Goals as goal

pub returns : goal.returns
returns c = one_placed c.args.s.now
