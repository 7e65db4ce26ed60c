use mathlib.Core.Path.{◌∙◌}
use mir.Facts.{to_z-of_z}
use Rattle.segment_levels.specs.Levels.{level_moved}
use Rattle.segment_levels.proofs.add.Goals as goal

pub returns : goal.returns
unfolding level_moved
returns c = c.moved_by.ensures ∙ rw (to_z-of_z c.ranges.delta)
