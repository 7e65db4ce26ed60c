use mathlib.Core.Path.{refl}
use Rattle.segment_grid.specs.Grid.{row_of}
use Rattle.segment_grid.proofs.row_of.Goals as goal

pub returns : goal.returns
unfolding row_of
returns c = refl
