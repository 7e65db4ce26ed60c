use Rattle.text_form.proofs.value_after.Goals as goal

pub returns-then-takes_value : goal.returns-then-takes_value
returns-then-takes_value c = rw (← c.takes_value.ensures, c.if-takes_value.true)

pub returns-else-takes_value : goal.returns-else-takes_value
returns-else-takes_value c = rw (← c.takes_value.ensures, c.if-takes_value.false)
