use Rattle.base_bytes.proofs.Append.{nothing}
use Rattle.text_form.proofs.Cases.{of_number, of_lifted, of_flag, of_words, of_text}
use borrow.Author.Rules.{rules}
use Rattle.text_form.proofs.put_mark.Goals as goal

pub returns-in-35 : goal.returns-in-35
returns-in-35 c = rw (of_number _ _ c.in-35.is) c.put_number.ensures

pub returns-in-37 : goal.returns-in-37
returns-in-37 c = rw (of_lifted _ _ c.in-37.is) c.put_lowered.ensures

pub returns-in-63 : goal.returns-in-63
returns-in-63 c = rw (of_flag _ _ c.in-63.is) c.put_flag.ensures

pub returns-in-60 : goal.returns-in-60
returns-in-60 c = rw (of_words _ _ c.in-60.is) (nothing _ _)

pub returns-in_default : goal.returns-in_default
returns-in_default c = rw (of_text c.args.c c.args.n (search rules) (search rules) (search rules) (search rules)) c.put_byte.ensures
