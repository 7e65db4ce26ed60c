use Rattle.base_bytes.proofs.Append.{then}
use Rattle.text_listing.proofs.Parts.{last_parts}
use Rattle.text_listing.proofs.last_line.Goals as goal

pub returns : goal.returns
returns c = rw last_parts at (then c.put_number-a.ensures (then c.put-b.ensures (then c.put_number-c.ensures c.put.ensures)))
