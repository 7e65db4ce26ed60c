use Rattle.base_syntax.proofs.Steps.{group_step, group_stop}
use Rattle.header_tail.specs.Settings.{read_settings}
use Rattle.header_tail.proofs.Records.{settings_read}
use Rattle.header_tail.proofs.parse_settings.Goals as goal

pub returns-in_err-lf : goal.returns-in_err-lf
unfolding read_settings
returns-in_err-lf c = search group_stop

pub returns-in_err-quant : goal.returns-in_err-quant
unfolding read_settings
returns-in_err-quant c = search (group_step, group_stop)

pub returns-in_err-seg : goal.returns-in_err-seg
unfolding read_settings
returns-in_err-seg c = search (group_step, group_stop)

pub returns : goal.returns
unfolding read_settings
returns c = search (group_step, settings_read)
