use Rattle.part_field.proofs.Steps.{reading}
use Rattle.grammar_tables.specs.Reading.{read_quantizer}
use Rattle.part_quantization.proofs.Steps.{delta_q_step, delta_q_stop}
use Rattle.part_quantization.proofs.Records.{base_fits, quantizer}
use borrow.Author.Rules.{rules}
use Rattle.part_quantization.proofs.parse_quantization_params.Goals as goal

pub returns-in_err-base : goal.returns-in_err-base
unfolding read_quantizer
returns-in_err-base c = search reading

pub returns-in_err-y_dc : goal.returns-in_err-y_dc
unfolding read_quantizer
returns-in_err-y_dc c = search (reading, delta_q_stop)

pub returns-in_err-uv_dc : goal.returns-in_err-uv_dc
unfolding read_quantizer
returns-in_err-uv_dc c = search (reading, delta_q_step, delta_q_stop)

pub returns-in_err-uv_ac : goal.returns-in_err-uv_ac
unfolding read_quantizer
returns-in_err-uv_ac c = search (reading, delta_q_step, delta_q_stop)

pub overflow_cast-params : goal.overflow_cast-params
overflow_cast-params c = search base_fits

pub returns : goal.returns
unfolding read_quantizer
returns c = search (rules, reading, delta_q_step, quantizer)
