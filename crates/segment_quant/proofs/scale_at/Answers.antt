use mathlib.Core.Path.{◌∙◌}
use mir.Facts.{to_z-of_z}
use mir.Syntax.{w16}
use Rattle.segment_clamp.proofs.Casts.{given}
use Rattle.segment_quant.specs.Quant.{scale_at}
use Rattle.segment_quant.proofs.scale_at.Goals as goal

pub returns : goal.returns
unfolding scale_at
returns c = given w16 c.at.type_inv (c.at.ensures ∙ rw (c.index.ensures, to_z-of_z c.ranges.delta))
