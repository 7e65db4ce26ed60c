use Rattle.listing_tracer.proofs.turned.Goals as goal

pub returns : goal.returns
returns c = rw (c.at_stage.ensures, c.default.ensures)
