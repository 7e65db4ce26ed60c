use mathlib.Core.Path.{◌∙◌}
use mir.Facts.{to_z-of_z, sfits_widen}
use mir.Syntax.{w16}
use mir.Val.{SFits}
use Rattle.segment_quant.proofs.index.Goals as goal

pub overflow_cast-delta : goal.overflow_cast-delta
overflow_cast-delta c = let f = c.ranges.delta in rw (to_z-of_z f) (sfits_widen tt f)

pub returns : goal.returns
returns c =
    let f = c.ranges.delta in
    let g : SFits w16 c.args.delta = sfits_widen tt f in
    c.moved_by.ensures ∙ rw (to_z-of_z f, to_z-of_z g)
