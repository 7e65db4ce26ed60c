use Rattle.base_syntax.proofs.Steps.{group_step, group_stop}
use Rattle.header_lead.specs.Lead.{read_lead}
use Rattle.header_lead.proofs.Steps.{shot_step, shot_stop, context_step, context_stop, lead_read}
use Rattle.header_lead.proofs.parse_lead.Goals as goal

pub returns-in_err-traits : goal.returns-in_err-traits
unfolding read_lead
returns-in_err-traits c = search group_stop

pub returns-in_err-shot : goal.returns-in_err-shot
unfolding read_lead
returns-in_err-shot c = search (group_step, shot_stop)

pub returns-in_err-context : goal.returns-in_err-context
unfolding read_lead
returns-in_err-context c = search (group_step, shot_step, context_stop)

pub returns : goal.returns
unfolding read_lead
returns c = search (group_step, shot_step, context_step, lead_read)
