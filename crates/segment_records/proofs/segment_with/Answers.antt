use borrow.Author.Rules.{rules}
use mir.Facts.{to_z-of_z}
use mir.Syntax.{w16}
use mir.Val.{SFits}
use Rattle.segment_records.specs.Segmentation.{segment_with}
use Rattle.segment_records.proofs.segment_with.Goals as goal

pub returns : goal.returns
unfolding segment_with
returns c =
    let e = c.args.e in
    let luma_ac : SFits w16 e.scales.luma_ac = search rules in
    let luma_dc : SFits w16 e.scales.luma_dc = search rules in
    let chroma_ac : SFits w16 e.scales.chroma_ac = search rules in
    let chroma_dc : SFits w16 e.scales.chroma_dc = search rules in
    let reference : SFits w16 e.reference_frame = search rules in
    rw (to_z-of_z luma_ac, to_z-of_z luma_dc, to_z-of_z chroma_ac, to_z-of_z chroma_dc, to_z-of_z reference)
