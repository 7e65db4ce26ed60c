use Rattle.part_field.proofs.Steps.{reading}
use Rattle.grammar_tables.specs.Reading.{read_prob}
use Rattle.part_coded.proofs.Records.{prob_fits, prob_read, prob_none}
use Rattle.part_coded.proofs.read_prob.Goals as goal

pub returns-in_err-coded : goal.returns-in_err-coded
unfolding read_prob
returns-in_err-coded c = λ x y. search reading

pub returns-in_err-prob : goal.returns-in_err-prob
unfolding read_prob
returns-in_err-prob c = λ x y. search reading

pub overflow_cast-prob : goal.overflow_cast-prob
overflow_cast-prob c = search prob_fits

pub returns-then-coded-eq1 : goal.returns-then-coded-eq1
unfolding read_prob
returns-then-coded-eq1 c = λ x y. search (reading, prob_read)

pub returns-else-coded-eq1 : goal.returns-else-coded-eq1
unfolding read_prob
returns-else-coded-eq1 c = λ x y. search (reading, prob_none)
