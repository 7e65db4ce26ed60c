use Rattle.part_field.proofs.Steps.{reading}
use Rattle.part_motion.specs.Filter.{read_filter}
use Rattle.part_motion.proofs.Records.{switchable, literal}
use Rattle.part_motion.proofs.read_interpolation_filter.Goals as goal

pub returns-in_err-switchable : goal.returns-in_err-switchable
unfolding read_filter
returns-in_err-switchable c = search reading

pub returns-in_err-literal : goal.returns-in_err-literal
unfolding read_filter
returns-in_err-literal c = search reading

pub returns-then-switchable-eq1 : goal.returns-then-switchable-eq1
unfolding read_filter
returns-then-switchable-eq1 c = search (reading, switchable)

pub returns-else-switchable-eq1 : goal.returns-else-switchable-eq1
unfolding read_filter
returns-else-switchable-eq1 c = search (reading, literal)
