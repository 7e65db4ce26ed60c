use Rattle.base_bytes.proofs.Append.{then}
use Rattle.text_frame_line.proofs.put_header.Goals as goal

pub returns : goal.returns
returns c = then c.put_field-next.ensures c.put_last.ensures
