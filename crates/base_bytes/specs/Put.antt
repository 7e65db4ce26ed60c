-- What a buffer holds once a text is put at a place, and which place is next.
-- Assumes nothing.
use Rattle.std.specs.Prelude.{ℕ, ◌+◌, ◌-◌, min, ◌≡◌, List, ◌++◌, length, take, drop}

-- how many bytes of t there is room for from `at` on: none where `at` is past the end
abbrev pub fitting : List ℕ → ℕ → List ℕ → ℕ
fitting out at t = min (length t) (length out - at)

-- those bytes of t stand from `at` on; before and after them the buffer is as it was
unfoldable pub put_into : List ℕ → ℕ → List ℕ → List ℕ
put_into out at t = take at out ++ take (fitting out at t) t ++ drop (at + fitting out at t) out

-- the place after them
unfoldable pub place_after : List ℕ → ℕ → List ℕ → ℕ
place_after out at t = at + fitting out at t

pub record Written (out : List ℕ) (at : ℕ) (t : List ℕ) (next : ℕ) (after : List ℕ) : Type 0 where
  pub place : next ≡ place_after out at t
  pub text : after ≡ put_into out at t
