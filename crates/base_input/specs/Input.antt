-- What is read of standard input and not used yet. Which bytes come, no contract can say.
-- Assumes nothing.
use Rattle.std.specs.Prelude.{ℕ, ◌+◌, min, ◌≡◌, true, false, List, length, take, drop, Ok, Err}
use Rattle.base_shared.specs.Choice.{pick_t}
use Rattle.base_buffer.specs.Front.{held, front_of}
use Rattle.base_stream.specs.declared.Unfilled.TheVariants.{Ended, Failed}
use Rattle.base_stream.specs.Stream.{Filled, FilledFrom}
use Rattle.base_input.specs.declared.Input.{Input}

abbrev pub fresh_input : Input
fresh_input = record { start = 0; end = 0; ended = false; failed = false }

-- n bytes are used, or all that are at hand
abbrev pub used_of : Input → ℕ → Input
used_of i n = record { start = min (i.start + n) i.end; end = i.end; ended = i.ended; failed = i.failed }

-- what is at hand in a buffer
abbrev pub hand_of : List ℕ → Input → List ℕ
hand_of buf i = drop i.start (take i.end buf)

-- as a buffer of so many bytes was filled
abbrev pub filled_by : ℕ → Filled → Input
filled_by size (Ok _) = record { start = 0; end = size; ended = false; failed = false }
filled_by size (Err (Ended end)) = record { start = 0; end = end; ended = true; failed = false }
filled_by size (Err (Failed end why)) = record { start = 0; end = end; ended = false; failed = true }

-- what was at hand lies at the buffer's front, and the buffer is filled behind it
pub record FilledBehind (before : List ℕ) (i r : Input) (after : List ℕ) : Type 0 where
  pub filled : Filled
  pub reads : FilledFrom (front_of before i.start i.end) (held before i.start i.end) filled after
  pub result : r ≡ filled_by (length before) filled

-- once a read failed nothing is done
abbrev pub Refilled : List ℕ → Input → Input → List ℕ → Type 0
Refilled before i r after = pick_t i.failed ((r ≡ i) × (after ≡ before)) (FilledBehind before i r after)
