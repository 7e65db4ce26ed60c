use Rattle.part_coded.proofs.Run.{counted_none, counted_more, counted_end, counted_short}
use Rattle.part_tiles.proofs.Records.{all_counted}
use Rattle.part_tiles.proofs.increments.Goals as goal

pub loop-k-init : goal.loop-k-init
loop-k-init c = counted_none _ _ _ _ _

pub returns-in_err-more : goal.returns-in_err-more
returns-in_err-more c = search counted_short

pub returns-then-more-ne1 : goal.returns-then-more-ne1
returns-then-more-ne1 c = search counted_end

pub loop-k-preserved : goal.loop-k-preserved
loop-k-preserved c = search counted_more

pub returns : goal.returns
returns c = search all_counted
