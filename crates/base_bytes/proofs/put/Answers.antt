use Rattle.base_bytes.proofs.Append.{copied, past_end}
use Rattle.base_bytes.specs.Put.{place_after}
use borrow.Author.Rules.{rules}
use Rattle.base_bytes.proofs.put.Goals as goal

pub returns-then-at-out : goal.returns-then-at-out
returns-then-at-out c = search (rules, past_end)

pub returns : goal.returns
unfolding place_after
returns c = search (rules, copied)
