use Rattle.part_sampling.proofs.Records.{picking}
use Rattle.part_sampling.proofs.range_of.Goals as goal

pub returns-then-space-eq-CS_RGB : goal.returns-then-space-eq-CS_RGB
returns-then-space-eq-CS_RGB c = search picking

pub returns-else-space-eq-CS_RGB : goal.returns-else-space-eq-CS_RGB
returns-else-space-eq-CS_RGB c = search picking
