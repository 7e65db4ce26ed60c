use mathlib.Core.Path.{◌≡◌, ◌∙◌}
use Rattle.chunk_answer.specs.declared.Answer.TheVariants.{Empty, Short}
use borrow.Author.Rules.{rules}
use Rattle.listing_lister.proofs.refused_after.Goals as goal

pub returns-in-Frames : goal.returns-in-Frames
returns-in-Frames c = rw c.in-Frames.is

pub returns-in-Empty : goal.returns-in-Empty
returns-in-Empty c = let e : c.args.answer ≡ Empty = search rules in c.one_more.ensures ∙ rw e

pub returns-in-Short : goal.returns-in-Short
returns-in-Short c = let e : c.args.answer ≡ Short = search rules in c.one_more-in-Short.ensures ∙ rw e

pub returns-in-Past : goal.returns-in-Past
returns-in-Past c = c.one_more-in-Past.ensures ∙ rw c.in-Past.is

pub returns-in-Header : goal.returns-in-Header
returns-in-Header c = c.one_more-in-Header.ensures ∙ rw c.in-Header.is
