-- A string of bytes, compared as a slice is.
-- Assumes nothing.
use Prim.Native.Nat.{ℕ, ◌+◌, ◌<◌, ◌≤◌}
use mathlib.Core.Path.{◌≡◌, refl}
use mathlib.Core.List.{List, [], ◌∷◌}
use native.Mathlib.Numerals.{add-one}
use native.Mathlib.Omega.{arith}
use lib.Dec.{eqb}
use lib.ListN.{length, take, drop}
use lib.Seq.{drop-cons}
use Rattle.std.specs.Cmp.Lexicographic.{pointwise}
use Rattle.ivf_file.specs.File.{stands_at}

pub compared : (s : List ℕ) (at : ℕ) (bs : List ℕ) → at + length bs ≤ length s → pointwise eqb (take (length bs) (drop at s)) bs ≡ stands_at s at bs
unfolding stands_at
compared s at [] h = refl
compared s at (b ∷ bs) h = let l : at < length s = omega arith in rw (drop-cons s at 0 l, ← add-one, compared s (at + 1) bs (omega arith))
