use mathlib.Core.Path.{◌≡◌}
use native.Mathlib.Omega.{arith}
use lib.IntN.{pos}
use lib.ListN.{get_or, length-set}
use mir.Syntax.{w16}
use mir.Val.{SFits}
use Rattle.text_signed.proofs.Lifted.{lifts}
use borrow.Author.Rules.{rules}
use Rattle.text_signed.specs.Number.{lifted_in}
use Rattle.text_setting_rows.specs.Settings.{data_row}
use Rattle.base_shared.proofs.Values.{none, one_more_lem, all_of}
use Rattle.text_setting_rows.proofs.data_row.Goals as goal

pub loop-i-init : goal.loop-i-init
loop-i-init c = (omega arith, search rules, none (lifted_in c.args.s))

pub loop-i-preserved : goal.loop-i-preserved
loop-i-preserved c =
    let l = c.loop-i in
    let f : SFits w16 (get_or c.args.s l.i (pos 0)) = search rules in
    (omega arith, rw length-set l.invariant.1, one_more_lem (lifted_in c.args.s) l.out l.i _ (lifts f c.lift.ensures) (omega arith) l.invariant.2)

pub returns : goal.returns
unfolding data_row
returns c =
    let l = c.loop-i in
    let e : l.i ≡ 32 = omega arith in
    all_of (lifted_in c.args.s) l.out l.i 32 e l.invariant.1 l.invariant.2
