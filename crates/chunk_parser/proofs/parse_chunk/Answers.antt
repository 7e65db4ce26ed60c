use mathlib.Core.Path.{◌∙◌}
use Rattle.chunk_index.specs.declared.Answer.TheVariants.{Empty, Short, Past}
use Rattle.header_parser.specs.Answer.{parsed}
use Rattle.chunk_judged.proofs.Walk.{by_split}
use borrow.Author.Rules.{rules}
use Rattle.chunk_parser.proofs.parse_chunk.Goals as goal

pub returns-in-Empty : goal.returns-in-Empty
returns-in-Empty c = c.refused.ensures ∙ by_split parsed _ _ Empty c.split_chunk-places.ensures (search rules)

pub returns-in-Short : goal.returns-in-Short
returns-in-Short c = c.refused-in-Short.ensures ∙ by_split parsed _ _ Short c.split_chunk-places.ensures (search rules)

pub returns-in-Past : goal.returns-in-Past
returns-in-Past c = c.refused-in-Past.ensures ∙ by_split parsed _ _ (Past _) c.split_chunk-places.ensures (search rules)
