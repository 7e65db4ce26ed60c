use borrow.Author.Rules.{rules}
use Rattle.segment_quant.proofs.dc_delta.Goals as goal

pub returns-then-luma : goal.returns-then-luma
returns-then-luma c = rw c.if-luma.true (search rules)

pub returns-else-luma : goal.returns-else-luma
returns-else-luma c = rw c.if-luma.false (search rules)
