use Rattle.base_bytes.proofs.Append.{then}
use Rattle.text_listing.proofs.Parts.{refused_parts}
use Rattle.text_listing.proofs.refused_line.Goals as goal

pub returns : goal.returns
returns c = rw refused_parts at (then c.put_number-a.ensures (then c.put-b.ensures (then c.put_number-c.ensures (then c.put-d.ensures c.put_last.ensures))))
