use Rattle.part_field.proofs.Steps.{reading}
use Rattle.grammar_tables.specs.Reading.{read_sync}
use Rattle.part_opening.proofs.parse_frame_sync_code.Goals as goal

pub returns-in_err-code : goal.returns-in_err-code
unfolding read_sync
returns-in_err-code c = search reading

pub returns-then-code-ne4817730 : goal.returns-then-code-ne4817730
unfolding read_sync
returns-then-code-ne4817730 c = search reading

pub returns : goal.returns
unfolding read_sync
returns c = search reading
