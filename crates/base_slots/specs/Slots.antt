-- The reference slots after a frame: VP9's reference frame update process (8.10), for the size that a slot remembers.
-- Assumes nothing.
use Rattle.std.specs.Prelude.{ℕ, ◌+◌, ◌/◌, ◌%◌, ◌^◌, List, [], ◌∷◌, eqb}
use Rattle.base_shared.specs.Choice.{pick}
use Rattle.base_size.specs.declared.FrameSize.{FrameSize}
use Rattle.base_shared.specs.Lists.{each}

-- slot i takes the new size where bit i of the flags is 1
abbrev pub slot_after : ℕ → FrameSize → ℕ → FrameSize → FrameSize
slot_after flags new i old = pick (eqb (flags / 2 ^ i % 2) 1) new old

abbrev pub refreshed : ℕ → FrameSize → List FrameSize → List FrameSize
refreshed flags new slots = each (slot_after flags new) 0 slots
