use mir.Facts.{to_z-of_z}
use Rattle.segment_levels.specs.Once.{levels_from}
use Rattle.segment_levels.proofs.levels_of.Goals as goal

pub returns-then-active : goal.returns-then-active
unfolding levels_from
returns-then-active c =
    let level = c.altered-level in
    rw (c.levels_at.ensures, level.ensures, to_z-of_z c.ranges.d, c.if-active.true)

pub returns-else-active : goal.returns-else-active
unfolding levels_from
returns-else-active c = rw (c.keep.ensures, c.if-active.false)
