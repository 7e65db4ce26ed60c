use Rattle.base_bytes.proofs.Append.{nothing}
use Rattle.text_form.proofs.Cases.{of_other, of_bound, of_word}
use borrow.Author.Rules.{rules}
use Rattle.text_form.proofs.put_word.Goals as goal

pub returns-then-left-gt0 : goal.returns-then-left-gt0
returns-then-left-gt0 c = rw (of_other _ _ c.if-left-gt0.true) (nothing _ _)

pub returns-in-124 : goal.returns-in-124
returns-in-124 c = rw (of_bound _ _ c.if-left-gt0.false c.in-124.is) (nothing _ _)

pub returns-in_default : goal.returns-in_default
returns-in_default c = rw (of_word c.args.left c.args.c c.if-left-gt0.false (search rules)) c.put_byte.ensures
