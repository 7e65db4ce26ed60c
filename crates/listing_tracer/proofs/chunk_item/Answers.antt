use mathlib.Core.Path.{◌∙◌}
use Rattle.listing_tracer.proofs.Steps.{other_answer, frames_answer}
use borrow.Author.Rules.{rules}
use Rattle.listing_tracer.proofs.chunk_item.Goals as goal

pub returns-in_default : goal.returns-in_default
returns-in_default c =
    let a = c.args in
    (rw (c.number.ensures, c.frame.ensures) at c.refused_item.ensures) ∙ other_answer a.tracer a.turn a.read a.read.answer (search rules)

pub returns : goal.returns
returns c =
    let a = c.args in
    rw (c.after_chunk.ensures, c.default.ensures) (frames_answer a.tracer a.turn a.read a.read.answer _ c.in-Frames.is)
