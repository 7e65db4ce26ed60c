use Rattle.base_syntax.proofs.Steps.{group_step, group_stop}
use Rattle.header_inter.specs.Inter.{read_inter}
use Rattle.header_inter.proofs.Records.{inter_read}
use Rattle.header_inter.proofs.parse_inter.Goals as goal

pub returns-in_err-sources : goal.returns-in_err-sources
unfolding read_inter
returns-in_err-sources c = search group_stop

pub returns-in_err-sizes : goal.returns-in_err-sizes
unfolding read_inter
returns-in_err-sizes c = search (group_step, group_stop)

pub returns-in_err-motion : goal.returns-in_err-motion
unfolding read_inter
returns-in_err-motion c = search (group_step, group_stop)

pub returns : goal.returns
unfolding read_inter
returns c = search (group_step, inter_read)
