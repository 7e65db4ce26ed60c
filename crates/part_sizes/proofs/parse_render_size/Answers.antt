use Rattle.part_field.proofs.Steps.{reading}
use Rattle.grammar_tables.specs.Reading.{read_render}
use Rattle.part_sizes.proofs.Steps.{size_or_step, size_or_stop}
use Rattle.part_sizes.proofs.Records.{render_read}
use Rattle.part_sizes.proofs.parse_render_size.Goals as goal

pub returns-in_err-flag : goal.returns-in_err-flag
unfolding read_render
returns-in_err-flag c = search reading

pub returns-in_err-size : goal.returns-in_err-size
unfolding read_render
returns-in_err-size c = search (reading, size_or_stop)

pub returns : goal.returns
unfolding read_render
returns c = search (reading, size_or_step, render_read)
