use Rattle.base_bytes.proofs.Append.{then}
use Rattle.text_records.proofs.put_state_opening.Goals as goal

pub returns : goal.returns
returns c = then c.put-next.ensures c.put_colors.ensures
