use Rattle.base_bits.proofs.Number.{there_read, not_there}
use Rattle.base_bits.proofs.read_bits_if.Goals as goal

pub returns-then-there : goal.returns-then-there
returns-then-there c = search there_read

pub returns-else-there : goal.returns-else-there
returns-else-there c = search not_there
