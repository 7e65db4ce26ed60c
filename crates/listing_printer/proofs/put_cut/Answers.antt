use Rattle.base_bytes.proofs.Append.{then}
use Rattle.listing_printer.specs.Text.{items_text}
use Rattle.listing_printer.proofs.Lines.{alone, bare}
use Rattle.listing_printer.proofs.put_cut.Goals as goal

pub returns : goal.returns
unfolding items_text
returns c = then (alone c.file_refused_line-next.ensures) (bare c.last_line.ensures)
