use Rattle.base_bytes.proofs.Append.{then}
use Rattle.text_line.proofs.put_field.Goals as goal

pub returns : goal.returns
returns c = then c.put_number-next.ensures c.put.ensures
