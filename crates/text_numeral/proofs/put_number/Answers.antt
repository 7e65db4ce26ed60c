use mathlib.Core.Path.{◌∙◌}
use Rattle.text_numeral.proofs.Digits.{decimal_numeral}
use Rattle.text_numeral.proofs.put_number.Goals as goal

pub returns : goal.returns
returns c =
    let n = c.args.n in
    let e = c.decimal-k.ensures.digits ∙ decimal_numeral c.decimal-k.result n c.ranges.n.fits c.decimal-k.ensures.len in
    rw e at c.put.ensures
