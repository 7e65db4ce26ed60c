use Rattle.part_field.proofs.Steps.{reading, sum_fits}
use Rattle.grammar_tables.specs.Reading.{read_size}
use Rattle.grammar_tables.specs.Header.{size_of}
use Rattle.part_sizes.proofs.parse_frame_size.Goals as goal

pub returns-in_err-width : goal.returns-in_err-width
unfolding read_size
returns-in_err-width c = λ x y. search reading

pub returns-in_err-height : goal.returns-in_err-height
unfolding read_size
returns-in_err-height c = λ x y. search reading

pub overflow_add-size : goal.overflow_add-size
overflow_add-size c = search sum_fits

pub overflow_add-size-2 : goal.overflow_add-size-2
overflow_add-size-2 c = search sum_fits

pub returns : goal.returns
unfolding read_size size_of
returns c = λ x y. search reading
