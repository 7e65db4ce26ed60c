use Rattle.header_state.specs.State.{frame_state}
use Rattle.header_state.proofs.frame_state.Goals as goal

pub returns : goal.returns
unfolding frame_state
returns c = rw (c.range_after.ensures, c.refresh.ensures)
