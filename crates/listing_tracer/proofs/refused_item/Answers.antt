use borrow.Author.Rules.{rules}
use Rattle.listing_tracer.proofs.refused_item.Goals as goal

pub returns : goal.returns
returns c = rw (c.after_refused.ensures, c.default.ensures)
