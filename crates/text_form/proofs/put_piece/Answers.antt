use mathlib.Core.Path.{◌≡◌}
use Rattle.base_bytes.proofs.Append.{nothing}
use Rattle.text_form.specs.declared.Mode.TheVariants.{Text, Rest}
use borrow.Author.Rules.{rules}
use Rattle.text_form.proofs.put_piece.Goals as goal

pub returns-in-Text : goal.returns-in-Text
returns-in-Text c = let e : c.args.mode ≡ Text = search rules in rw e c.put_mark.ensures

pub returns-in-Words : goal.returns-in-Words
returns-in-Words c = rw c.in-Words.is c.put_word.ensures

pub returns-in-Rest : goal.returns-in-Rest
returns-in-Rest c = let e : c.args.mode ≡ Rest = search rules in rw e (nothing _ _)
