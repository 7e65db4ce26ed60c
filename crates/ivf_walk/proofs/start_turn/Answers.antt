use mathlib.Core.Path.{◌∙◌}
use native.Mathlib.Omega.{arith}
use Rattle.ivf_walk.proofs.Steps.{all_there, too_few, enough}
use Rattle.ivf_walk.proofs.start_turn.Goals as goal

pub returns-then-ended : goal.returns-then-ended
returns-then-ended c = c.file_turn.ensures ∙ rw c.if-ended.true (all_there _)

pub returns-then-s-lt32 : goal.returns-then-s-lt32
returns-then-s-lt32 c = rw c.if-ended.false (too_few _ (omega arith))

pub returns : goal.returns
returns c = c.file_turn-2.ensures ∙ rw c.if-ended.false (enough _ (omega arith))
