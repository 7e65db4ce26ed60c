use borrow.Author.Rules.{rules}
use mathlib.Core.Path.{refl, ◌∙◌}
use native.Mathlib.Omega.{arith}
use Rattle.header_parser.specs.Answer.{parsed}
use Rattle.chunk_judged.proofs.Walk.{walked_none, inside, walked_more, walked_fault, walked_all}
use Rattle.chunk_parser.proofs.parse_frames.Goals as goal

pub loop-i-init : goal.loop-i-init
loop-i-init c = walked_none parsed _ c.requires.0 c.requires.1

pub overflow_add-to : goal.overflow_add-to
overflow_add-to c = search (rules, inside parsed c.loop-i.invariant c.loop-i-test.true)

pub slice_bounds-parse_frame_header-end : goal.slice_bounds-parse_frame_header-end
slice_bounds-parse_frame_header-end c = search (rules, inside parsed c.loop-i.invariant c.loop-i-test.true)

pub returns-in-Err : goal.returns-in-Err
returns-in-Err c = c.refused.ensures ∙ walked_fault parsed c.loop-i.invariant c.loop-i-test.true _ c.in-Err.ensures.told _ refl

pub loop-i-preserved : goal.loop-i-preserved
loop-i-preserved c = walked_more parsed c.loop-i.invariant c.loop-i-test.true _ c.in-Ok.ensures.told refl

pub returns : goal.returns
returns c = walked_all parsed c.loop-i.invariant (omega arith)
