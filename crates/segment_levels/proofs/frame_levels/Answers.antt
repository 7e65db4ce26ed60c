use borrow.Author.Rules.{rules}
use mir.Syntax.{w8}
use mir.Val.{Fits}
use Rattle.segment_clamp.proofs.Casts.{byte}
use Rattle.segment_levels.specs.Once.{frame_levels}
use Rattle.segment_levels.proofs.frame_levels.Goals as goal

pub returns : goal.returns
unfolding frame_levels
returns c =
    let f : Fits w8 c.args.lf.level = search rules in
    rw (c.levels_at.ensures, c.clamp_to.ensures, byte f)
