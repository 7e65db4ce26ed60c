use Rattle.part_coded.proofs.Records.{too_wide, delta_told, delta_short}
use Rattle.part_coded.proofs.read_delta.Goals as goal

pub returns-then-n-gt7 : goal.returns-then-n-gt7
returns-then-n-gt7 c = search too_wide

pub returns-in-Ok : goal.returns-in-Ok
returns-in-Ok c = search delta_told

pub returns-in-Err : goal.returns-in-Err
returns-in-Err c = search delta_short
