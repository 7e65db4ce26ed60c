use mathlib.Core.Path.{◌∙◌}
use mir.Facts.{to_z-of_z}
use mir.Syntax.{w8}
use mir.Val.{SFits}
use borrow.Author.Rules.{rules}
use Rattle.test_values.specs.Values.{signed_byte_at}
use Rattle.test_values.proofs.signed_byte_at.Goals as goal

pub returns : goal.returns
unfolding signed_byte_at
returns c =
    let f : SFits w8 c.signed_8.result = search rules in
    to_z-of_z f ∙ c.signed_8.ensures ∙ rw (c.byte_at.ensures, c.byte_at-2.ensures, c.rest-b.ensures)
