use mathlib.Core.Path.{refl}
use Rattle.segment_grid.specs.Grid.{grid_of}
use Rattle.segment_grid.proofs.grid_of.Goals as goal

pub returns : goal.returns
unfolding grid_of
returns c = refl
