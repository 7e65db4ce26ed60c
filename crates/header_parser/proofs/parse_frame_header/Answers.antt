use Rattle.header_parser.proofs.Parts.{
  opened_stop,
  opened_shown,
  opened_frame,
  lead_stop,
  lead_step,
  settings_stop,
  settings_step,
  closing_stop,
  closing_read,
}
use Rattle.header_parser.proofs.Whole.{as_opened}
use Rattle.header_parser.proofs.parse_frame_header.Goals as goal

pub returns-in_err-opening-clause-told : goal.returns-in_err-opening-clause-told
returns-in_err-opening-clause-told c = as_opened _ _ _ (search opened_stop)

pub returns-then-opening-clause-told : goal.returns-then-opening-clause-told
returns-then-opening-clause-told c = as_opened _ _ _ (search opened_shown)

pub returns-in_err-lead-clause-told : goal.returns-in_err-lead-clause-told
returns-in_err-lead-clause-told c = as_opened _ _ _ (search (opened_frame, lead_stop))

pub returns-in_err-settings-clause-told : goal.returns-in_err-settings-clause-told
returns-in_err-settings-clause-told c = as_opened _ _ _ (search (opened_frame, lead_step, settings_stop))

pub returns-in_err-closing-clause-told : goal.returns-in_err-closing-clause-told
returns-in_err-closing-clause-told c = as_opened _ _ _ (search (opened_frame, lead_step, settings_step, closing_stop))

pub returns-clause-told : goal.returns-clause-told
returns-clause-told c = as_opened _ _ _ (search (opened_frame, lead_step, settings_step, closing_read))
