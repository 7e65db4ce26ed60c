use Rattle.grammar_tables.specs.Reading.{read_refs}
use Rattle.part_refs.proofs.Steps.{ref_step, ref_stop}
use Rattle.part_refs.proofs.Records.{refs_read}
use Rattle.part_refs.proofs.parse_refs.Goals as goal

pub returns-in_err-last : goal.returns-in_err-last
unfolding read_refs
returns-in_err-last c = search ref_stop

pub returns-in_err-golden : goal.returns-in_err-golden
unfolding read_refs
returns-in_err-golden c = search (ref_step, ref_stop)

pub returns-in_err-altref : goal.returns-in_err-altref
unfolding read_refs
returns-in_err-altref c = search (ref_step, ref_stop)

pub returns : goal.returns
unfolding read_refs
returns c = search (ref_step, refs_read)
