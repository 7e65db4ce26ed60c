use mir.Syntax.{w8}
use mir.Val.{SFits}
use Rattle.text_signed.proofs.Lifted.{lifts}
use Rattle.text_setting_rows.specs.Settings.{quantization_row}
use borrow.Author.Rules.{rules}
use Rattle.text_setting_rows.proofs.quantization_row.Goals as goal

pub returns : goal.returns
unfolding quantization_row
returns c =
    let q = c.args.q in
    let y : SFits w8 q.delta_q_y_dc = search rules in
    let u : SFits w8 q.delta_q_uv_dc = search rules in
    let v : SFits w8 q.delta_q_uv_ac = search rules in
    rw (lifts y c.lift_byte.ensures, lifts u c.lift_byte-2.ensures, lifts v c.lift_byte-3.ensures)
