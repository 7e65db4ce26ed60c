use Rattle.part_tiles.proofs.Loops.{halved_none, halved_more, halved_end}
use Rattle.part_tiles.proofs.calc_max_log2_tile_cols.Goals as goal

pub loop-max_log2-init : goal.loop-max_log2-init
loop-max_log2-init c = halved_none _

pub loop-max_log2-preserved : goal.loop-max_log2-preserved
loop-max_log2-preserved c = search halved_more

pub returns : goal.returns
returns c = search halved_end
