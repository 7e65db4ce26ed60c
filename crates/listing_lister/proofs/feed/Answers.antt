use mathlib.Core.Path.{refl, sym, ◌∙◌}
use Rattle.ivf_walk.proofs.Progress.{data_at_hand}
use Rattle.listing_lister.proofs.Event.{other_event}
use borrow.Author.Rules.{rules}
use Rattle.listing_lister.proofs.feed.Goals as goal

pub feed_event-requires : goal.feed_event-requires
feed_event-requires c = other_event c.next_turn-turn.result.event (search rules)

pub feed_chunk-requires : goal.feed_chunk-requires
feed_chunk-requires c =
    let t = c.next_turn-turn in
    let e = c.in-Data.is in
    let a = c.args in
    (e, data_at_hand a.lister.stage a.ended a.s.now t.result t.ensures _ e)

pub returns-then-not-has_room : goal.returns-then-not-has_room
returns-then-not-has_room c =
    let g = sym c.has_room.ensures ∙ c.if-not-has_room.true in
    rw g (refl, refl)

pub returns-in_default : goal.returns-in_default
returns-in_default c =
    let g = sym c.has_room.ensures ∙ c.if-not-has_room.false in
    rw (g, ← c.next_turn-turn.ensures) c.feed_event.ensures

pub returns : goal.returns
returns c =
    let g = sym c.has_room.ensures ∙ c.if-not-has_room.false in
    rw (g, ← c.next_turn-turn.ensures) c.feed_chunk.ensures
