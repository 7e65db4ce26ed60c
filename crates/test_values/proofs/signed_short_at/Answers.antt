use mathlib.Core.Path.{◌∙◌}
use mir.Facts.{to_z-of_z}
use mir.Syntax.{w16}
use mir.Val.{SFits}
use borrow.Author.Rules.{rules}
use Rattle.test_values.specs.Values.{signed_short_at}
use Rattle.test_values.proofs.signed_short_at.Goals as goal

pub returns : goal.returns
unfolding signed_short_at
returns c =
    let f : SFits w16 c.signed_16.result = search rules in
    to_z-of_z f
    ∙ c.signed_16.ensures
    ∙ rw (c.byte_at.ensures, c.byte_at-2.ensures, c.byte_at-3.ensures, c.rest-b.ensures)
