use Rattle.base_bytes.proofs.Append.{then}
use Rattle.text_records.proofs.put_opening.Goals as goal

pub returns : goal.returns
returns c = then c.put_profile-next.ensures c.put_colors.ensures
