use borrow.Author.Rules.{rules}
use mir.Facts.{to_z-of_z}
use mir.Syntax.{w16}
use mir.Val.{SFits}
use Rattle.segment_records.specs.Entries.{entries_with}
use Rattle.segment_records.proofs.entries.entries_of.Goals as goal

pub returns : goal.returns
unfolding entries_with
returns c =
    let scales = c.scales_of-scales in
    let d : SFits w16 c.args.f.reference = search rules in
    rw (scales.ensures, to_z-of_z d)
