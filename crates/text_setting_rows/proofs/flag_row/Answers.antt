use mathlib.Core.Path.{◌≡◌, refl}
use native.Mathlib.Omega.{arith}
use lib.ListN.{length-set}
use borrow.Author.Rules.{rules}
use Rattle.text_signed.specs.Number.{flag_in}
use Rattle.text_setting_rows.specs.Settings.{flag_row}
use Rattle.base_shared.proofs.Values.{none, one_more_lem, all_of}
use Rattle.text_setting_rows.proofs.flag_row.Goals as goal

pub loop-i-init : goal.loop-i-init
loop-i-init c = (omega arith, search rules, none (flag_in c.args.s))

pub loop-i-preserved : goal.loop-i-preserved
loop-i-preserved c =
    let l = c.loop-i in
    (omega arith, rw length-set l.invariant.1, one_more_lem (flag_in c.args.s) l.out l.i _ refl (omega arith) l.invariant.2)

pub returns : goal.returns
unfolding flag_row
returns c =
    let l = c.loop-i in
    let e : l.i ≡ 32 = omega arith in
    all_of (flag_in c.args.s) l.out l.i 32 e l.invariant.1 l.invariant.2
