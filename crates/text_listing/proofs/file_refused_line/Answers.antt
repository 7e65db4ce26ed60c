use Rattle.base_bytes.proofs.Append.{then}
use Rattle.text_listing.proofs.Parts.{file_parts}
use Rattle.text_listing.proofs.file_refused_line.Goals as goal

pub returns : goal.returns
returns c = rw file_parts at (then c.put-a.ensures c.put_last.ensures)
