use Rattle.base_bytes.proofs.Append.{then}
use Rattle.text_frame_line.proofs.put_frame.Goals as goal

pub returns : goal.returns
returns c = then c.put_field-a.ensures (then c.put_field-b.ensures (then c.put_kind-c.ensures c.put.ensures))
