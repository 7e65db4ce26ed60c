use Rattle.base_syntax.proofs.Steps.{group_step, group_stop}
use Rattle.part_field.proofs.Steps.{reading}
use Rattle.part_motion.specs.Motion.{read_motion}
use Rattle.part_motion.proofs.Records.{motion_read}
use Rattle.part_motion.proofs.parse_motion.Goals as goal

pub returns-in_err-precise : goal.returns-in_err-precise
unfolding read_motion
returns-in_err-precise c = search reading

pub returns-in_err-filter : goal.returns-in_err-filter
unfolding read_motion
returns-in_err-filter c = search (reading, group_stop)

pub returns : goal.returns
unfolding read_motion
returns c = search (reading, group_step, motion_read)
