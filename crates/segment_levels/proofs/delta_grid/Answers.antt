use borrow.Author.Rules.{rules}
use lib.IntN.{pos}
use lib.ListN.{get_or}
use mir.Facts.{to_z-of_z}
use mir.Syntax.{w8, w16}
use mir.Val.{SFits}
use Rattle.segment_clamp.proofs.Casts.{given}
use Rattle.segment_levels.specs.Levels.{delta_grid}
use Rattle.segment_levels.proofs.delta_grid.Goals as goal

pub returns : goal.returns
unfolding delta_grid
returns c =
    let e0 : SFits w8 (get_or c.args.refs 0 (pos 0)) = search rules in
    let e1 : SFits w8 (get_or c.args.refs 1 (pos 0)) = search rules in
    let e2 : SFits w8 (get_or c.args.refs 2 (pos 0)) = search rules in
    let e3 : SFits w8 (get_or c.args.refs 3 (pos 0)) = search rules in
    rw (
      c.add.ensures,
      given w16 c.scale.type_inv c.scale.ensures,
      c.pair-last.ensures,
      c.pair-golden.ensures,
      c.pair-alt.ensures,
      to_z-of_z e0,
      to_z-of_z e1,
      to_z-of_z e2,
      to_z-of_z e3,
    )
