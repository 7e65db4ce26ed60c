use Rattle.part_sizes.proofs.Records.{size_there, size_not_there}
use Rattle.part_sizes.proofs.size_or.Goals as goal

pub returns-then-there : goal.returns-then-there
returns-then-there c = search size_there

pub returns-else-there : goal.returns-else-there
returns-else-there c = search size_not_there
