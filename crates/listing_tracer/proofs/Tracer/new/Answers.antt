use Rattle.listing_tracer.proofs.Tracer.new.Goals as goal

pub returns : goal.returns
returns c = rw (c.refused-read.ensures, c.default.ensures, c.default-2.ensures, c.default-3.ensures)
