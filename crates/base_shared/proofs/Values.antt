-- A list that is filled from the front, a value a turn.
-- Assumes nothing.
use Prim.Native.Nat.{ℕ, suc, ◌+◌, ◌<◌}
use mathlib.Core.Path.{◌≡◌, refl, sym, ap, ◌∙◌}
use mathlib.Core.List.{List, []}
use native.Mathlib.Numerals.{add-one}
use lib.ListN.{length, take, set}
use lib.Seq.{take-length, take-suc-set}
use Rattle.base_shared.specs.Lists.{values_of}

pub none : {A : Type 0} (f : ℕ → A) → [] ≡ values_of f 0
unfolding values_of
none f = refl

module _ {A : Type 0} (f : ℕ → A) (out : List A) where
  pub one_more_lem : (i : ℕ) (a : A) → a ≡ f i → i < length out → take i out ≡ values_of f i → take (i + 1) (set out i a) ≡ values_of f (i + 1)
  unfolding values_of
  one_more_lem i a e h t = rw (add-one i, take-suc-set out i a h, t, e)

  pub all_of : (i n : ℕ) → i ≡ n → length out ≡ n → take i out ≡ values_of f i → out ≡ values_of f n
  all_of i n e l t = sym (take-length out) ∙ rw (l, ← e) t
