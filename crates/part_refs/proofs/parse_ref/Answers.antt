use Rattle.part_field.proofs.Steps.{reading}
use Rattle.part_refs.specs.Refs.{ref_of}
use Rattle.grammar_tables.specs.Reading.{read_ref}
use Rattle.part_refs.proofs.Records.{byte_fits}
use Rattle.part_refs.proofs.parse_ref.Goals as goal

pub returns-in_err-idx : goal.returns-in_err-idx
unfolding read_ref
returns-in_err-idx c = λ i. search reading

pub returns-in_err-sign_bias : goal.returns-in_err-sign_bias
unfolding read_ref
returns-in_err-sign_bias c = λ i. search reading

pub overflow_cast-reference : goal.overflow_cast-reference
overflow_cast-reference c = search byte_fits

pub overflow_cast-reference-2 : goal.overflow_cast-reference-2
overflow_cast-reference-2 c = search byte_fits

pub returns : goal.returns
unfolding read_ref ref_of
returns c = λ i. search reading
