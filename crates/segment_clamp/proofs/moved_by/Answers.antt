use mathlib.Core.Path.{◌∙◌}
use mir.Facts.{to_z-of_z}
use Rattle.segment_clamp.proofs.Casts.{byte, wide, sum}
use Rattle.segment_clamp.proofs.moved_by.Goals as goal

pub overflow_cast-d : goal.overflow_cast-d
overflow_cast-d c = rw (to_z-of_z c.ranges.d) (wide c.ranges.d)

pub overflow_add-base : goal.overflow_add-base
overflow_add-base c =
    let f = c.ranges in
    rw (to_z-of_z f.d, to_z-of_z (wide f.d), byte f.base) (sum f.base f.d)

pub returns : goal.returns
returns c =
    let f = c.ranges in
    c.clamp_to.ensures ∙ rw (to_z-of_z f.d, to_z-of_z (wide f.d), byte f.base, to_z-of_z (sum f.base f.d))
