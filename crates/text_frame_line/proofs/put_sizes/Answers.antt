use Rattle.base_bytes.proofs.Append.{then}
use Rattle.text_frame_line.proofs.put_sizes.Goals as goal

pub returns : goal.returns
returns c = then c.put_field-a.ensures (then c.put_field-b.ensures (then c.put_field-c.ensures c.put_field.ensures))
