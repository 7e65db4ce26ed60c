use Prim.Native.Nat.{◌-◌}
use Rattle.part_tiles.proofs.Loops.{Tried}
use Rattle.part_tiles.proofs.calc_min_log2_tile_cols.Given as goal

abbrev pub invariant-loop-min_log2 : goal.invariant-loop-min_log2
invariant-loop-min_log2 l = Tried l.w l.min_log2

abbrev pub decreases-loop-min_log2 : goal.decreases-loop-min_log2
decreases-loop-min_log2 l = 27 - l.min_log2
