use Rattle.listing_lister.specs.Lister.{one_more}
use borrow.Author.Rules.{rules}
use Rattle.listing_lister.proofs.one_more.Goals as goal

pub returns-then-n-lt18446744073709551615 : goal.returns-then-n-lt18446744073709551615
unfolding one_more
returns-then-n-lt18446744073709551615 c = search rules

pub returns-else-n-lt18446744073709551615 : goal.returns-else-n-lt18446744073709551615
unfolding one_more
returns-else-n-lt18446744073709551615 c = search rules
