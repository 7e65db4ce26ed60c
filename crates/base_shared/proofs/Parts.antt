-- A part of a list: dropping from what is taken is taking from what is left.
-- Assumes nothing.
use Prim.Native.Nat.{ℕ, zero, suc, ◌-◌}
use mathlib.Core.Path.{◌≡◌, refl, sym}
use mathlib.Core.List.{List, [], ◌∷◌}
use native.Mathlib.Omega.{arith}
use lib.ListN.{take, drop}
use lib.Seq.{take-nil}

pub drop_take : {A : Type 0} (k m : ℕ) (l : List A) → drop k (take m l) ≡ take (m - k) (drop k l)
drop_take zero m l = let z : m - 0 ≡ m = omega arith in rw z
drop_take (suc k) zero l = let z : 0 - suc k ≡ 0 = omega arith in rw z
drop_take (suc k) (suc m) [] = sym (take-nil (suc m - suc k))
drop_take (suc k) (suc m) (x ∷ l) = let z : suc m - suc k ≡ m - k = omega arith in rw z (drop_take k m l)
