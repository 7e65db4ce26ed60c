use mathlib.Core.Path.{◌≡◌, ap, ◌∙◌}
use mir.Facts.{to_z-of_z}
use mir.Syntax.{w16}
use mir.Val.{SFits}
use Rattle.text_signed.specs.Number.{lifted}
use Rattle.text_signed.proofs.Lifted.{lifts}
use Rattle.text_setting_rows.proofs.lift_byte.Goals as goal

pub returns : goal.returns
returns c =
    let e : c.from.result ≡ c.args.n = c.from.ensures ∙ to_z-of_z c.ranges.n in
    let f : SFits w16 c.from.result = record { sfits = c.from.type_inv } in
    lifts f c.lift.ensures ∙ ap lifted e
