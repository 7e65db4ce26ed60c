use Rattle.part_coded.proofs.Run.{counted_none, counted_more, counted_end}
use Rattle.part_size_with_refs.proofs.WithRefs.{found_one, found_nothing, found_short}
use Rattle.part_size_with_refs.proofs.find_ref.Goals as goal

pub loop-i-init : goal.loop-i-init
loop-i-init c = counted_none _ _ _ _ _

pub returns-then-i-ge-REFS_PER_FRAME : goal.returns-then-i-ge-REFS_PER_FRAME
returns-then-i-ge-REFS_PER_FRAME c = search found_nothing

pub returns-in_err-flag : goal.returns-in_err-flag
returns-in_err-flag c = search found_short

pub returns-then-flag-ne0 : goal.returns-then-flag-ne0
returns-then-flag-ne0 c = search (found_one, counted_end)

pub loop-i-preserved : goal.loop-i-preserved
loop-i-preserved c = search counted_more
