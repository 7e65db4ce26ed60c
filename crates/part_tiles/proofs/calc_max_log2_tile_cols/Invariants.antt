use Prim.Native.Nat.{◌-◌}
use Rattle.part_tiles.proofs.Loops.{Halved}
use Rattle.part_tiles.proofs.calc_max_log2_tile_cols.Given as goal

abbrev pub invariant-loop-max_log2 : goal.invariant-loop-max_log2
invariant-loop-max_log2 l = Halved l.sb64_cols l.max_log2

abbrev pub decreases-loop-max_log2 : goal.decreases-loop-max_log2
decreases-loop-max_log2 l = 30 - l.max_log2
