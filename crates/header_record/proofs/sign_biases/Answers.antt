use Rattle.header_record.proofs.sign_biases.Goals as goal

pub returns-then-is_independent : goal.returns-then-is_independent
returns-then-is_independent c = rw (← c.is_independent.ensures, c.if-is_independent.true)

pub returns : goal.returns
returns c = rw (← c.is_independent.ensures, c.if-is_independent.false)
