use lib.IntN.{pos}
use lib.ListN.{get_or}
use mir.Syntax.{w8}
use mir.Val.{SFits}
use Rattle.text_signed.proofs.Lifted.{lifts}
use Rattle.text_setting_rows.specs.Settings.{filter_row}
use borrow.Author.Rules.{rules}
use Rattle.text_setting_rows.proofs.filter_row.Goals as goal

pub returns : goal.returns
unfolding filter_row
returns c =
    let refs = c.args.lf.ref_deltas in
    let modes = c.args.lf.mode_deltas in
    let f0 : SFits w8 (get_or refs 0 (pos 0)) = search rules in
    let f1 : SFits w8 (get_or refs 1 (pos 0)) = search rules in
    let f2 : SFits w8 (get_or refs 2 (pos 0)) = search rules in
    let f3 : SFits w8 (get_or refs 3 (pos 0)) = search rules in
    let g0 : SFits w8 (get_or modes 0 (pos 0)) = search rules in
    let g1 : SFits w8 (get_or modes 1 (pos 0)) = search rules in
    rw (lifts f0 c.lift_byte.ensures, lifts f1 c.lift_byte-2.ensures, lifts f2 c.lift_byte-3.ensures, lifts f3 c.lift_byte-4.ensures, lifts g0 c.lift_byte-5.ensures, lifts g1 c.lift_byte-6.ensures)
