use native.Mathlib.Omega.{arith}
use Rattle.ivf_walk.proofs.Steps.{all_passed, cut_inside, part_passed}
use Rattle.ivf_walk.proofs.skip_turn.Goals as goal

pub returns-then-left-held : goal.returns-then-left-held
returns-then-left-held c = all_passed _ _ _ (omega arith)

pub returns-then-ended : goal.returns-then-ended
returns-then-ended c = rw c.if-ended.true (cut_inside _ _ (omega arith))

pub returns : goal.returns
returns c = rw c.if-ended.false (part_passed _ _ (omega arith))
