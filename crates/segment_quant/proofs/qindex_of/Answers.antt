use mathlib.Core.Path.{◌∙◌}
use mir.Facts.{to_z-of_z}
use Rattle.segment_quant.specs.Quant.{qindex_of}
use Rattle.segment_quant.proofs.qindex_of.Goals as goal

pub returns-then-active : goal.returns-then-active
unfolding qindex_of
returns-then-active c = c.altered.ensures ∙ rw (to_z-of_z c.ranges.d, c.if-active.true)

pub returns-else-active : goal.returns-else-active
unfolding qindex_of
returns-else-active c = rw c.if-active.false
