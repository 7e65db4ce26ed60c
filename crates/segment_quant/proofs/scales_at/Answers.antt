use borrow.Author.Rules.{rules}
use mir.Facts.{to_z-of_z}
use mir.Syntax.{w8, w16}
use mir.Val.{SFits}
use Rattle.segment_clamp.proofs.Casts.{given}
use Rattle.segment_quant.specs.Quant.{scales_at}
use Rattle.segment_quant.proofs.scales_at.Goals as goal

pub returns : goal.returns
unfolding scales_at
returns c =
    let chroma_dc = c.scale_at-4 in
    let chroma_ac = c.scale_at-3 in
    let luma_dc = c.scale_at-2 in
    let luma_ac = c.scale_at in
    let y-dc : SFits w8 c.args.quant.delta_q_y_dc = search rules in
    let uv-dc : SFits w8 c.args.quant.delta_q_uv_dc = search rules in
    let uv-ac : SFits w8 c.args.quant.delta_q_uv_ac = search rules in
    rw (
      given w16 luma_ac.type_inv luma_ac.ensures,
      given w16 luma_dc.type_inv luma_dc.ensures,
      given w16 chroma_ac.type_inv chroma_ac.ensures,
      given w16 chroma_dc.type_inv chroma_dc.ensures,
      to_z-of_z y-dc,
      to_z-of_z uv-dc,
      to_z-of_z uv-ac,
    )
