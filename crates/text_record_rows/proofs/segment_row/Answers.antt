use borrow.Author.Rules.{rules}
use mir.Syntax.{w16}
use mir.Val.{SFits}
use Rattle.text_signed.proofs.Lifted.{lifts}
use Rattle.text_record_rows.specs.Records.{segment_row}
use Rattle.text_record_rows.proofs.segment_row.Goals as goal

pub returns : goal.returns
unfolding segment_row
returns c =
    let s = c.args.s in
    let f1 : SFits w16 s.luma_ac_quant_scale = search rules in
    let f2 : SFits w16 s.luma_dc_quant_scale = search rules in
    let f3 : SFits w16 s.chroma_ac_quant_scale = search rules in
    let f4 : SFits w16 s.chroma_dc_quant_scale = search rules in
    let f5 : SFits w16 s.reference_frame = search rules in
    rw (lifts f1 c.lift.ensures, lifts f2 c.lift-2.ensures, lifts f3 c.lift-3.ensures, lifts f4 c.lift-4.ensures, lifts f5 c.lift-5.ensures)
