use Rattle.text_form.proofs.Cases.{marked, not_marked}
use borrow.Author.Rules.{rules}
use Rattle.text_form.proofs.is_mark.Goals as goal

pub returns-in-35 : goal.returns-in-35
returns-in-35 c = marked _ c.in-35.is

pub returns-in_default : goal.returns-in_default
returns-in_default c = not_marked c.args.c (search rules)
