use mathlib.Core.Path.{◌≡◌}
use native.Mathlib.Omega.{arith}
use lib.ListN.{length}
use borrow.Author.Rules.{rules}
use Rattle.listing_tracer.proofs.Steps.{past_eight}
use Rattle.listing_tracer.proofs.size_at.Goals as goal

pub returns-else-i-lt8 : goal.returns-else-i-lt8
returns-else-i-lt8 c =
    let a = c.args in
    let eight : length a.read.size ≡ 8 = search rules in
    past_eight a.read.size a.i eight (omega arith)
