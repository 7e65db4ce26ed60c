use mir.Facts.{to_z-of_z, sfits_widen}
use mir.Syntax.{w16}
use mir.Val.{SFits}
use Rattle.segment_levels.specs.Levels.{scaled}
use Rattle.segment_levels.proofs.Bounds.{power, scaled_fits}
use Rattle.segment_levels.proofs.scale.Goals as goal

pub overflow_cast-result : goal.overflow_cast-result
overflow_cast-result c = let f = c.ranges.delta in rw (to_z-of_z f) (sfits_widen tt f)

pub overflow_mul-result : goal.overflow_mul-result
unfolding scaled
overflow_mul-result c = let f = c.ranges in let g : SFits w16 c.args.delta = sfits_widen tt f.delta in rw (to_z-of_z f.delta, to_z-of_z g, power f.frame) (scaled_fits f.frame f.delta)

pub returns : goal.returns
unfolding scaled
returns c = let f = c.ranges in let g : SFits w16 c.args.delta = sfits_widen tt f.delta in rw (to_z-of_z f.delta, to_z-of_z g, power f.frame, to_z-of_z (scaled_fits f.frame f.delta))
