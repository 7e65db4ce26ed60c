use Rattle.listing_lister.proofs.Lister.after_chunk.Goals as goal

pub returns : goal.returns
returns c = rw (c.one_more.ensures, c.refused_after.ensures)
