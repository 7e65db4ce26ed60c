use Rattle.header_parser.specs.Parts.{shown_header}
use Rattle.header_parser.proofs.shown_header.Goals as goal

pub returns : goal.returns
unfolding shown_header
returns c = rw (c.showing.ensures, c.of_two_bits.ensures)
