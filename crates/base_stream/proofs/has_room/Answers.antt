use native.Mathlib.Omega.{arith}
use Rattle.base_stream.proofs.Left.{room_past, room_within}
use Rattle.base_stream.proofs.has_room.Goals as goal

pub returns-then-at-size : goal.returns-then-at-size
returns-then-at-size c = room_past _ _ _ (omega arith)

pub returns : goal.returns
returns c = room_within _ _ _ (omega arith)
