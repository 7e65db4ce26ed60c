use Rattle.part_field.proofs.Steps.{reading}
use Rattle.grammar_tables.specs.Reading.{read_delta}
use Rattle.part_coded.proofs.Records.{narrow, magnitude_small, delta_read}
use Rattle.part_coded.proofs.coded_delta.Goals as goal

pub returns-in_err-flag : goal.returns-in_err-flag
unfolding read_delta
returns-in_err-flag c = λ x y z. search reading

pub returns-in_err-magnitude : goal.returns-in_err-magnitude
unfolding read_delta
returns-in_err-magnitude c = λ x y z. search (reading, narrow)

pub returns-in_err-sign : goal.returns-in_err-sign
unfolding read_delta
returns-in_err-sign c = λ x y z. search (reading, narrow)

pub signed_8-value-requires : goal.signed_8-value-requires
signed_8-value-requires c = search magnitude_small

pub returns : goal.returns
unfolding read_delta
returns c = λ x y z. search (reading, narrow, delta_read)
