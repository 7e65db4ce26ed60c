use Rattle.base_syntax.proofs.Steps.{tail}
use Rattle.part_sizes.specs.Sizes.{read_sizes}
use Rattle.part_sizes.proofs.Steps.{size_step, size_stop}
use Rattle.part_sizes.proofs.Records.{sizes_read}
use Rattle.part_sizes.proofs.parse_sizes.Goals as goal

pub returns-in_err-frame : goal.returns-in_err-frame
unfolding read_sizes
returns-in_err-frame c = search size_stop

pub returns : goal.returns
unfolding read_sizes
returns c = search (size_step, tail, sizes_read)
