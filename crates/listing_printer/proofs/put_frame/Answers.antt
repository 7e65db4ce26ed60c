use Rattle.base_bytes.proofs.Append.{then}
use Rattle.listing_printer.proofs.put_frame.Goals as goal

pub returns : goal.returns
returns c = then c.frame_line-next.ensures (then c.put_header-next.ensures c.put_segments.ensures)
