use Rattle.header_tail.proofs.starting_segmentation.Goals as goal

pub returns-then-independent : goal.returns-then-independent
returns-then-independent c = rw c.if-independent.true c.reset.ensures
