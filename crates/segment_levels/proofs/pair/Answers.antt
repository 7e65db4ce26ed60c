use borrow.Author.Rules.{rules}
use lib.IntN.{pos}
use lib.ListN.{get_or}
use mir.Facts.{to_z-of_z}
use mir.Syntax.{w8, w16}
use mir.Val.{SFits}
use Rattle.segment_clamp.proofs.Casts.{given}
use Rattle.segment_levels.specs.Levels.{pair_of}
use Rattle.segment_levels.proofs.pair.Goals as goal

pub returns : goal.returns
unfolding pair_of
returns c =
    let second = c.both-2 in
    let first = c.both in
    let m0 : SFits w8 (get_or c.args.modes 0 (pos 0)) = search rules in
    let m1 : SFits w8 (get_or c.args.modes 1 (pos 0)) = search rules in
    rw (
      c.add.ensures,
      c.add-2.ensures,
      given w16 first.type_inv first.ensures,
      given w16 second.type_inv second.ensures,
      to_z-of_z c.ranges.reference,
      to_z-of_z m0,
      to_z-of_z m1,
    )
