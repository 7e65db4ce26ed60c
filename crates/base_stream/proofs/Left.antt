-- Room, by the code's tests.
-- Assumes nothing.
use Prim.Native.Nat.{ℕ, ◌+◌, ◌-◌, ◌≤◌, ◌<◌}
use mathlib.Core.Path.{◌≡◌, refl, sym}
use mathlib.Core.Bool.{Bool, true, false}
use native.Mathlib.Omega.{arith}
use lib.Dec.{leb}
use borrow.Author.Tests.{leb-true, leb-false, le-leb, lt-leb}
use Rattle.base_stream.specs.Stream.{room_left}

pub room_inside : (size at n : ℕ) → room_left size at n ≡ true → at ≤ size
unfolding room_left
room_inside size at n h = omega (arith, leb-true (at + n) size h)

pub room_past : (size at n : ℕ) → size < at → false ≡ room_left size at n
unfolding room_left
room_past size at n h = sym (lt-leb (at + n) size (omega arith))

pub room_within : (size at n : ℕ) → at ≤ size → leb n (size - at) ≡ room_left size at n
unfolding room_left
room_within size at n h = go (leb n (size - at)) refl
  where
    go : (b : Bool) → leb n (size - at) ≡ b → b ≡ leb (at + n) size
    go true e = sym (le-leb (at + n) size (omega (arith, leb-true n (size - at) e)))
    go false e = sym (lt-leb (at + n) size (omega (arith, leb-false n (size - at) e)))
