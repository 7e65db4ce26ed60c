use Rattle.text_listing.proofs.Parts.{column_parts}
use Rattle.text_listing.proofs.column_line.Goals as goal

pub returns : goal.returns
returns c = rw column_parts at c.put.ensures
