use borrow.Author.Rules.{rules}
use mir.Facts.{to_z-of_z}
use mir.Syntax.{w16}
use mir.Val.{SFits}
use Rattle.segment_records.specs.Once.{scales_from}
use Rattle.segment_records.proofs.entries.scales_of.Goals as goal

pub returns-else-f : goal.returns-else-f
unfolding scales_from
returns-else-f c = rw c.if-f.false

pub returns-then-f : goal.returns-then-f
unfolding scales_from
returns-then-f c =
    let b = c.altered-b in
    let d : SFits w16 c.args.f.quantizer = search rules in
    rw (c.scales_at.ensures, b.ensures, to_z-of_z d, c.if-f.true)
