use mathlib.Core.Path.{◌∙◌}
use mir.Syntax.{w8, w16}
use Rattle.segment_clamp.proofs.Casts.{given}
use Rattle.segment_quant.specs.Quant.{dc_quant}
use Rattle.segment_quant.proofs.Same.{same_scale}
use Rattle.segment_quant.proofs.get_dc_quant.Goals as goal

pub returns : goal.returns
unfolding dc_quant
returns c =
    let delta = c.dc_delta in
    let b = c.get_qindex in
    let table = c.dc_table-table in
    given w16 c.scale_at.type_inv
    (c.scale_at.ensures ∙ same_scale table.ensures b.ensures (given w8 delta.type_inv delta.ensures))
