use borrow.Author.Rules.{rules}
use Rattle.part_loop_deltas.proofs.Records.{moved_coded, moved_kept}
use Rattle.part_loop_deltas.proofs.move_delta.Goals as goal

pub returns-then-d : goal.returns-then-d
returns-then-d c = search (rules, moved_coded)

pub returns-else-d : goal.returns-else-d
returns-else-d c = search (rules, moved_kept)
