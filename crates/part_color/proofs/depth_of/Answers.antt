use Rattle.part_sampling.proofs.Records.{picking}
use Rattle.part_color.proofs.depth_of.Goals as goal

pub returns-then-profile-lt2 : goal.returns-then-profile-lt2
returns-then-profile-lt2 c = search picking

pub returns-then-bit-eq1 : goal.returns-then-bit-eq1
returns-then-bit-eq1 c = search picking

pub returns-else-bit-eq1 : goal.returns-else-bit-eq1
returns-else-bit-eq1 c = search picking
