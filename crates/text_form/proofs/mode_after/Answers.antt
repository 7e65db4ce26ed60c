use mathlib.Core.Path.{◌≡◌, ◌∙◌}
use borrow.Author.Tests.{ne_eqb}
use Rattle.text_form.specs.declared.Mode.TheVariants.{Text, Rest}
use borrow.Author.Rules.{rules}
use Rattle.text_form.proofs.mode_after.Goals as goal

pub returns-then-c-eq60 : goal.returns-then-c-eq60
returns-then-c-eq60 c = let e : c.args.mode ≡ Text = search rules in rw (e, c.if-c-eq60.true)

pub returns-else-c-eq60 : goal.returns-else-c-eq60
returns-else-c-eq60 c = let e : c.args.mode ≡ Text = search rules in rw (e, ne_eqb _ 60 c.if-c-eq60.false)

pub returns-in-Words : goal.returns-in-Words
returns-in-Words c = c.words_after.ensures ∙ rw c.in-Words.is

pub returns-then-c-eq62 : goal.returns-then-c-eq62
returns-then-c-eq62 c = let e : c.args.mode ≡ Rest = search rules in rw (e, c.if-c-eq62.true)

pub returns-else-c-eq62 : goal.returns-else-c-eq62
returns-else-c-eq62 c = let e : c.args.mode ≡ Rest = search rules in rw (e, ne_eqb _ 62 c.if-c-eq62.false)
