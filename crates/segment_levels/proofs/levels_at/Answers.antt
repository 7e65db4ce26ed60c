use borrow.Author.Tests.{ne_eqb}
use Rattle.segment_levels.specs.Levels.{levels_at}
use Rattle.segment_levels.proofs.levels_at.Goals as goal

pub returns-then-lf-eq0 : goal.returns-then-lf-eq0
unfolding levels_at
returns-then-lf-eq0 c = rw c.if-lf-eq0.true

pub returns-then-lf : goal.returns-then-lf
unfolding levels_at
returns-then-lf c = rw (c.delta_grid.ensures, ne_eqb _ _ c.if-lf-eq0.false, c.if-lf.true)

pub returns-else-lf : goal.returns-else-lf
unfolding levels_at
returns-else-lf c = rw (ne_eqb _ _ c.if-lf-eq0.false, c.if-lf.false)
