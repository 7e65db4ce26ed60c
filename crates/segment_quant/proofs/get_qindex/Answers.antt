use mathlib.Core.Path.{◌∙◌}
use mir.Syntax.{w16}
use Rattle.segment_clamp.proofs.Casts.{given}
use Rattle.segment_quant.specs.Quant.{qindex}
use Rattle.segment_quant.proofs.get_qindex.Goals as goal

pub returns : goal.returns
unfolding qindex
returns c =
    let d = c.feature_data-d in
    c.qindex_of.ensures ∙ rw (c.is_feature_active-active.ensures, given w16 d.type_inv d.ensures)
