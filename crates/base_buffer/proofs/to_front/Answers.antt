use borrow.Author.Rules.{rules}
use Rattle.base_buffer.proofs.Copy.{moved}
use Rattle.base_buffer.proofs.to_front.Goals as goal

pub returns : goal.returns
returns c = search (rules, moved)
