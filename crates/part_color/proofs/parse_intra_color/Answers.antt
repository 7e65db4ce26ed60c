use Rattle.part_color.proofs.Records.{intra_coded, intra_fixed}
use Rattle.part_color.proofs.parse_intra_color.Goals as goal

pub returns-then-profile-gt0 : goal.returns-then-profile-gt0
returns-then-profile-gt0 c = search intra_coded

pub returns : goal.returns
returns c = search intra_fixed
