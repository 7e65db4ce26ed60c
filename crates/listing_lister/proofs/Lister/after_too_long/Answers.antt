use Rattle.listing_lister.proofs.Lister.after_too_long.Goals as goal

pub returns : goal.returns
returns c = rw (c.one_more.ensures, c.one_more-2.ensures)
