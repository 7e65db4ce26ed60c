use Rattle.part_coded.proofs.Run.{Counted}
use Rattle.part_tiles.proofs.increments.Given as goal

abbrev pub invariant-loop-k : goal.invariant-loop-k
invariant-loop-k l = Counted "increment_tile_cols_log2" 1 l.limit l.s l.initial.at.at l.k l.at.at
