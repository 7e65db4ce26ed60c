use borrow.Author.Rules.{rules}
use native.Mathlib.Omega.{arith}
use lib.ListN.{get_or}
use Rattle.base_bytes.proofs.Rest.{left_none}
use Rattle.text_form.proofs.Formed.{form_all, form_more, form_none, few_more}
use Rattle.text_form.proofs.put_form.Goals as goal

pub loop-c-init : goal.loop-c-init
loop-c-init c = (omega arith, form_all _ _)

pub shape_of-out : goal.shape_of-out
shape_of-out c = c.loop-c.invariant.1.same

pub returns : goal.returns
returns c =
    let s = c.loop-c in
    let a = c.args in
    left_none s.invariant.1 (form_none a.form.now a.values.now s.mode s.value s.c-index (omega arith))

pub loop-c-preserved : goal.loop-c-preserved
loop-c-preserved c =
    let s = c.loop-c in
    let form = c.args.form.now in
    let value = c.value_after-value.ensures in
    (few_more s.value s.c-index s.mode (get_or form s.c-index 0) value s.invariant.0, form_more form _ s.mode s.value s.c-index s.invariant.1 (search rules) c.value_at-n.ensures c.put_piece-next.ensures value c.mode_after-mode.ensures)
