use borrow.Author.Tests.{eq-eqb, ne_eqb}
use Rattle.base_syntax.proofs.Binds.{as_parts}
use Rattle.base_syntax.proofs.Steps.{tail}
use Rattle.part_field.proofs.Steps.{reading}
use Rattle.part_loop_filter.proofs.Parts.{in_parts_lem}
use Rattle.part_loop_filter.proofs.Records.{byte_fits, filter_moved, filter_plain}
use Rattle.part_loop_filter.proofs.parse_loop_filter_params.Goals as goal

pub returns-in_err-level : goal.returns-in_err-level
returns-in_err-level c = as_parts _ (in_parts_lem _ _) (search reading)

pub returns-in_err-sharpness : goal.returns-in_err-sharpness
returns-in_err-sharpness c = as_parts _ (in_parts_lem _ _) (search reading)

pub returns-in_err-enabled : goal.returns-in_err-enabled
returns-in_err-enabled c = as_parts _ (in_parts_lem _ _) (search reading)

pub overflow_cast-lf : goal.overflow_cast-lf
overflow_cast-lf c = search byte_fits

pub overflow_cast-lf-2 : goal.overflow_cast-lf-2
overflow_cast-lf-2 c = search byte_fits

pub returns-then-enabled-eq1 : goal.returns-then-enabled-eq1
returns-then-enabled-eq1 c = as_parts _ (in_parts_lem _ _) (search (reading, eq-eqb, tail, filter_moved) depth 8)

pub returns-else-enabled-eq1 : goal.returns-else-enabled-eq1
returns-else-enabled-eq1 c = as_parts _ (in_parts_lem _ _) (search (reading, ne_eqb, filter_plain) depth 8)
