use mathlib.Core.Path.{sym, ◌∙◌}
use Rattle.base_stream.proofs.Left.{room_inside}
use Rattle.base_stream.proofs.Streams.make_room.Goals as goal

pub returns-then-has_room : goal.returns-then-has_room
returns-then-has_room c = let e = sym c.has_room.ensures ∙ c.if-has_room.true in (room_inside _ _ _ e, rw e)
