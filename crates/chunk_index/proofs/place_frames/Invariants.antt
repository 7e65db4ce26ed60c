use Rattle.chunk_index.specs.Layout.{laid}
use Rattle.chunk_index.proofs.Walk.{Walked}
use Rattle.chunk_index.proofs.place_frames.Given as goal

abbrev pub invariant-loop-i : goal.invariant-loop-i
invariant-loop-i l = Walked (laid l.s l.room l.count l.first l.n) l.i l.at l.ats l.sizes
