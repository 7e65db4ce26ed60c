use mathlib.Core.List.{[], ◌∷◌}
use Rattle.text_listing.specs.Lines.{file_refused_line, last_line}
use Rattle.listing_lister.proofs.Lines.{a_line, line_more}
use Rattle.listing_lister.proofs.put_cut.Goals as goal

pub returns : goal.returns
returns c = line_more (file_refused_line 8 ∷ []) (last_line _ _) (a_line (file_refused_line 8) c.file_refused_line-next.ensures) c.last_line.ensures
