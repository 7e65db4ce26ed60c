use Rattle.part_field.proofs.Steps.{reading}
use Rattle.grammar_tables.specs.Reading.{read_feature}
use Rattle.part_feature.proofs.Records.{value_fits, feature_read}
use Rattle.part_feature.proofs.Tables.{value_step, value_stop}
use Rattle.part_feature.proofs.parse_feature.Goals as goal

pub returns-in_err-flag : goal.returns-in_err-flag
unfolding read_feature
returns-in_err-flag c = λ i. search reading

pub returns-in_err-magnitude : goal.returns-in_err-magnitude
unfolding read_feature
returns-in_err-magnitude c = λ i. search (reading, value_stop)

pub returns-in_err-sign : goal.returns-in_err-sign
unfolding read_feature
returns-in_err-sign c = λ i. search (reading, value_step)

pub overflow_cast-magnitude : goal.overflow_cast-magnitude
overflow_cast-magnitude c = search value_fits

pub returns : goal.returns
unfolding read_feature
returns c = λ i. search (reading, value_step, feature_read)
