use mathlib.Core.Path.{◌∙◌}
use mir.Facts.{to_z-of_z}
use Rattle.segment_clamp.proofs.Casts.{wide}
use Rattle.segment_clamp.proofs.altered.Goals as goal

pub overflow_cast-d : goal.overflow_cast-d
overflow_cast-d c = let f = c.ranges.d in rw (to_z-of_z f) (wide f)

pub returns-then-absolute : goal.returns-then-absolute
returns-then-absolute c =
    let f = c.ranges.d in
    c.clamp_to.ensures ∙ rw (to_z-of_z f, to_z-of_z (wide f), c.if-absolute.true)

pub returns-else-absolute : goal.returns-else-absolute
returns-else-absolute c =
    let f = c.ranges.d in
    c.moved_by.ensures ∙ rw (to_z-of_z f, c.if-absolute.false)
