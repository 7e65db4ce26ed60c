use borrow.Author.Tests.{eq-eqb, ne_eqb}
use borrow.Author.Rules.{rules}
use Rattle.base_slots.proofs.slot_after.Goals as goal

pub returns-then-flags-i-eq1 : goal.returns-then-flags-i-eq1
returns-then-flags-i-eq1 c = rw (eq-eqb _ _ c.if-flags-i-eq1.true)

pub returns-else-flags-i-eq1 : goal.returns-else-flags-i-eq1
returns-else-flags-i-eq1 c = rw (ne_eqb _ _ c.if-flags-i-eq1.false)
