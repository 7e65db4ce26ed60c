use Rattle.base_bytes.proofs.Append.{then}
use Rattle.text_records.proofs.put_front.Goals as goal

pub returns : goal.returns
returns c = then c.put_opening-next.ensures (then c.put_picture-next.ensures c.put_sources.ensures)
