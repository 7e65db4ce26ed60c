use Rattle.segment_records.specs.Once.{renewed}
use Rattle.segment_records.proofs.renew.Goals as goal

pub returns : goal.returns
unfolding renewed
returns c = rw (c.segment_with.ensures, c.entries_of.ensures, c.levels_after-after.ensures)
