use borrow.Author.Rules.{rules}
use mir.Facts.{to_z-of_z}
use mir.Syntax.{w16}
use mir.Val.{SFits}
use Rattle.segment_records.specs.Once.{levels_after}
use Rattle.segment_records.proofs.levels_after.Goals as goal

pub returns : goal.returns
unfolding levels_after
returns c =
    let after = c.levels_of-after in
    let d : SFits w16 c.args.f.level = search rules in
    rw (c.row_of.ensures, after.ensures, c.grid_of-before.ensures, to_z-of_z d)
