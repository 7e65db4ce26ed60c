use Rattle.part_sampling.proofs.Records.{picking}
use Rattle.part_sampling.proofs.subsampling_of.Goals as goal

pub returns-then-space-eq-CS_RGB : goal.returns-then-space-eq-CS_RGB
returns-then-space-eq-CS_RGB c = search picking

pub returns-then-profile-eq1 : goal.returns-then-profile-eq1
returns-then-profile-eq1 c = search picking

pub returns-else-profile-eq1 : goal.returns-else-profile-eq1
returns-else-profile-eq1 c = search picking
