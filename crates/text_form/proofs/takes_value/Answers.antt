use mathlib.Core.Path.{◌≡◌, ◌∙◌}
use Rattle.text_form.specs.declared.Mode.TheVariants.{Text}
use borrow.Author.Rules.{rules}
use Rattle.text_form.proofs.takes_value.Goals as goal

pub returns-in-Text : goal.returns-in-Text
returns-in-Text c = let e : c.args.mode ≡ Text = search rules in c.is_mark.ensures ∙ rw e
