use native.Mathlib.Omega.{arith}
use Rattle.listing_lister.proofs.Room.{room_past, room_within}
use Rattle.listing_lister.proofs.has_room.Goals as goal

pub returns-then-at-len : goal.returns-then-at-len
returns-then-at-len c = room_past _ _ (omega arith)

pub returns : goal.returns
returns c = room_within _ _ (omega arith)
