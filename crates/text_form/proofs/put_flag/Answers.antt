use borrow.Author.Tests.{eq-eqb, ne_eqb}
use Rattle.text_form.proofs.put_flag.Goals as goal

pub returns-then-n-eq1 : goal.returns-then-n-eq1
returns-then-n-eq1 c = rw (eq-eqb _ 1 c.if-n-eq1.true) c.put.ensures

pub returns-else-n-eq1 : goal.returns-else-n-eq1
returns-else-n-eq1 c = rw (ne_eqb _ 1 c.if-n-eq1.false) c.put-else-n-eq1.ensures
