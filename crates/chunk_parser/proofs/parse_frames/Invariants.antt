use Rattle.header_parser.specs.Answer.{parsed}
use Rattle.chunk_judged.proofs.Walk.{Walked}
use Rattle.chunk_parser.proofs.parse_frames.Given as goal

abbrev pub invariant-loop-i : goal.invariant-loop-i
invariant-loop-i l = Walked parsed l.chunk l.initial.state l.count l.places.at l.places.size l.i l.headers l.state
