-- The bytes of a buffer from one place to another, moved to its front.
-- Assumes nothing.
use Rattle.std.specs.Prelude.{ℕ, ◌-◌, min, ◌≡◌, List, ◌++◌, length, take, drop}

-- how many there are: those past the buffer's end don't count
abbrev pub held : List ℕ → ℕ → ℕ → ℕ
held s start end = min end (length s) - start

-- behind them the buffer is as it was
unfoldable pub front_of : List ℕ → ℕ → ℕ → List ℕ
front_of s start end = take (held s start end) (drop start s) ++ drop (held s start end) s

pub record Moved (s : List ℕ) (start end count : ℕ) (after : List ℕ) : Type 0 where
  pub counted : count ≡ held s start end
  pub bytes : after ≡ front_of s start end
