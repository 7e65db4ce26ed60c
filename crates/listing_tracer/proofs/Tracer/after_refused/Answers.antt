use borrow.Author.Rules.{rules}
use Rattle.listing_tracer.proofs.Tracer.after_refused.Goals as goal

pub returns : goal.returns
returns c = rw (c.one_more.ensures, c.one_more-2.ensures)
