use Rattle.listing_lister.proofs.Lister.new.Goals as goal

pub returns : goal.returns
returns c = rw c.default.ensures
