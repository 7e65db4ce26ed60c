-- Room for the lines of a call.
-- Assumes nothing.
use Prim.Native.Nat.{ℕ, ◌+◌, ◌-◌, ◌≤◌, ◌<◌}
use mathlib.Core.Path.{◌≡◌, refl, sym}
use mathlib.Core.Bool.{Bool, true, false}
use native.Mathlib.Omega.{arith}
use lib.Dec.{leb}
use borrow.Author.Tests.{leb-true, leb-false, le-leb, lt-leb}
use Rattle.listing_lister.specs.Feed.{has_room}

pub room_past : (len at : ℕ) → len < at → false ≡ has_room len at
unfolding has_room
room_past len at h = sym (lt-leb (at + 4096) len (omega arith))

pub room_within : (len at : ℕ) → at ≤ len → leb 4096 (len - at) ≡ has_room len at
unfolding has_room
room_within len at h = go (leb 4096 (len - at)) refl
  where
    go : (b : Bool) → leb 4096 (len - at) ≡ b → b ≡ leb (at + 4096) len
    go true e = sym (le-leb (at + 4096) len (omega (arith, leb-true 4096 (len - at) e)))
    go false e = sym (lt-leb (at + 4096) len (omega (arith, leb-false 4096 (len - at) e)))
