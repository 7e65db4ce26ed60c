use borrow.Author.Tests.{ne_eqb}
use Rattle.segment_levels.specs.Once.{kept}
use Rattle.segment_levels.proofs.keep.Goals as goal

pub returns-then-lf-eq0 : goal.returns-then-lf-eq0
unfolding kept
returns-then-lf-eq0 c = rw c.if-lf-eq0.true

pub returns-then-lf : goal.returns-then-lf
unfolding kept
returns-then-lf c = rw (ne_eqb _ _ c.if-lf-eq0.false, c.if-lf.true)

pub returns-else-lf : goal.returns-else-lf
unfolding kept
returns-else-lf c = rw (ne_eqb _ _ c.if-lf-eq0.false, c.if-lf.false)
