use Rattle.base_bytes.proofs.Append.{then}
use Rattle.text_records.specs.Header.{header_text}
use Rattle.text_records.proofs.put_header.Goals as goal

pub returns : goal.returns
unfolding header_text
returns c = then c.put_front-next.ensures (then c.put_settings-next.ensures c.put_end.ensures)
