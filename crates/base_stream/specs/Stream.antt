-- What can be said of a buffer that input is read into: which bytes come, no contract can say.
-- Assumes nothing.
use Rattle.std.specs.Prelude.{ℕ, ◌+◌, ◌≤◌, ◌<◌, ◌≡◌, Bool, false, List, ◌⊎◌, leb, length, take, drop, Result, Ok, Err}
use Rattle.base_shared.specs.Choice.{pick}
use Rattle.base_stream.specs.declared.Unfilled.{Unfilled}
use Rattle.base_stream.specs.declared.Unfilled.TheVariants.{Ended, Failed}
use Rattle.base_stream.specs.declared.Ending.{Ending}
use Rattle.base_stream.specs.declared.Ending.TheVariants.{Unwritten}

-- whether a buffer was filled
abbrev pub Filled : Type 0
Filled = Result Unit Unfilled

-- the input's end lies from the place on and before the buffer's end; a failed read may be met at that end too
abbrev pub EndsWithin : ℕ → ℕ → Filled → Type 0
EndsWithin at size (Ok _) = Unit
EndsWithin at size (Err (Ended n)) = (at ≤ n) × (n < size)
EndsWithin at size (Err (Failed n why)) = (at ≤ n) × (n ≤ size)

-- the bytes before the place stay
pub record FilledFrom (before : List ℕ) (at : ℕ) (r : Filled) (after : List ℕ) : Type 0 where
  pub kept : take at after ≡ take at before
  pub ends : EndsWithin at (length before) r

-- of the first n bytes: those after them stay, and the input's end lies before the n-th; nothing is read into a buffer
-- of fewer than n
pub record FrontFilled (before : List ℕ) (n : ℕ) (r : Filled) (after : List ℕ) : Type 0 where
  pub kept : drop n after ≡ drop n before
  pub ends : EndsWithin 0 n r
  pub narrow : length before < n → (r ≡ Err (Ended 0)) × (after ≡ before)

-- n bytes are left from `at` on
unfoldable pub room_left : ℕ → ℕ → ℕ → Bool
room_left size at n = leb (at + n) size

-- a buffer's first n bytes can't be written where it has fewer
abbrev pub WroteFront : {E : Type 0} → ℕ → ℕ → Result Unit E → Type 0
WroteFront size n (Ok _) = n ≤ size
WroteFront size n (Err why) = Unit

-- the text goes on where it is, or at 0 once it is written; only a write can fail
abbrev pub RoomFor : {E : Type 0} → ℕ → ℕ → ℕ → Result ℕ E → Type 0
RoomFor size at n (Ok p) = (at ≤ size) × (p ≡ pick (room_left size at n) at 0)
RoomFor size at n (Err why) = room_left size at n ≡ false

abbrev pub IsUnwritten : Ending → Type 0
IsUnwritten (Unwritten why) = Unit
IsUnwritten _ = ⊥

-- as it was to be, once the bytes before `at` are written, or because a write failed
abbrev pub EndsAs : ℕ → ℕ → Ending → Ending → Type 0
EndsAs size at e r = ((r ≡ e) × (at ≤ size)) ⊎ IsUnwritten r
