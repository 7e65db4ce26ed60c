use mathlib.Core.Path.{◌∙◌}
use native.Mathlib.Omega.{arith}
use Rattle.ivf_walk.proofs.Progress.{data_at_hand}
use Rattle.listing_tracer.proofs.Steps.{frame_first, turn_by}
use borrow.Author.Rules.{rules}
use Rattle.listing_tracer.proofs.next_item.Goals as goal

pub returns-then-tracer : goal.returns-then-tracer
returns-then-tracer c = c.next_frame.ensures ∙ frame_first _ _ _ (omega arith)

pub turn_item-requires : goal.turn_item-requires
turn_item-requires c =
    let a = c.args in
    let t = c.next_turn-turn in
    λ n e. data_at_hand a.tracer.stage a.ended a.s.now t.result t.ensures n e

pub returns : goal.returns
returns c = c.turn_item.ensures ∙ turn_by _ _ _ _ c.next_turn-turn.ensures (omega arith)
