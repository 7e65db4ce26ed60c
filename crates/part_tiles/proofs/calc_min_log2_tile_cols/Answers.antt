use Rattle.part_tiles.proofs.Loops.{tried_none, tried_more, tried_end}
use Rattle.part_tiles.proofs.calc_min_log2_tile_cols.Goals as goal

pub loop-min_log2-init : goal.loop-min_log2-init
loop-min_log2-init c = tried_none _

pub loop-min_log2-preserved : goal.loop-min_log2-preserved
loop-min_log2-preserved c = search tried_more

pub returns : goal.returns
returns c = search tried_end
