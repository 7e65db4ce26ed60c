use Rattle.base_syntax.proofs.Steps.{group_step, group_stop}
use Rattle.part_field.proofs.Steps.{reading}
use Rattle.part_refs.specs.Sources.{read_sources}
use Rattle.part_refs.proofs.Records.{byte_fits, sources_read}
use Rattle.part_refs.proofs.parse_sources.Goals as goal

pub returns-in_err-refresh : goal.returns-in_err-refresh
unfolding read_sources
returns-in_err-refresh c = search reading

pub returns-in_err-refs : goal.returns-in_err-refs
unfolding read_sources
returns-in_err-refs c = search (reading, group_stop)

pub overflow_cast-sources : goal.overflow_cast-sources
overflow_cast-sources c = search byte_fits

pub returns : goal.returns
unfolding read_sources
returns c = search (reading, group_step, sources_read)
