-- A loop that replaces each element in turn, for any type of element.
-- Assumes nothing.
use mathlib.Core.Path.{◌≡◌, refl, sym, ap, ◌∙◌}
use mathlib.Core.List.{List, [], ◌∷◌, ◌++◌, append-nil, map}
use Prim.Native.Nat.{ℕ, zero, suc, ◌+◌, ◌<◌, ◌≤◌}
use native.Mathlib.Numerals.{add-one}
use native.Mathlib.Omega.{arith}
use lib.ListN.{length, take, drop, set, get_or, drop_of_length-le, length-map}
use lib.Seq.{take-suc-set, append_snoc, take_all, drop-cons, drop-set-lt}
use Rattle.base_shared.specs.Lists.{each}

-- owning an array of structs tells the length of the list of their encodings
pub length_mapped : (X Y : Type 0) (f : X → Y) (l : List X) (n : ℕ) → length (map f l) ≡ n → length l ≡ n
length_mapped X Y f l n p = sym (length-map l f) ∙ p

module _ {A : Type 0} (f : ℕ → A → A) where
  -- the first i are replaced, and the others follow
  abbrev pub done : ℕ → List A → List A
  done i l = take i l ++ each f i (drop i l)

  pub each_step : (i : ℕ) (l : List A) (d : A) → i < length l → done i l ≡ done (i + 1) (set l i (f i (get_or l i d)))
  unfolding each
  each_step i l d h =
      let less : i < suc i = omega arith in
      rw (
        drop-cons l i d h,
        add-one,
        take-suc-set l i (f i (get_or l i d)) h,
        drop-set-lt (suc i) l i (f i (get_or l i d)) less,
        append_snoc,
      )

  pub each_end : (i : ℕ) (l : List A) → length l ≤ i → done i l ≡ l
  unfolding each
  each_end i l h = rw (take_all i l h, drop_of_length-le l h, append-nil)

  -- element i becomes f of its number and itself
  pub each_at : (k : ℕ) (l : List A) (i : ℕ) (d : A) → i < length l → get_or (each f k l) i d ≡ f (k + i) (get_or l i d)
  unfolding each
  each_at k [] i d h = absurd (omega arith)
  each_at k (x ∷ l) zero d h = let e : k + 0 ≡ k = omega arith in rw e
  each_at k (x ∷ l) (suc i) d h =
      let e : k + suc i ≡ k + 1 + i = omega arith in
      rw e (each_at (k + 1) l i d (omega arith))

  pub each_length : (k : ℕ) (l : List A) → length (each f k l) ≡ length l
  unfolding each
  each_length k [] = refl
  each_length k (x ∷ l) = ap suc (each_length (k + 1) l)

-- two functions that agree give the same list
pub each_same : {A : Type 0} {f g : ℕ → A → A} → ((i : ℕ) (x : A) → f i x ≡ g i x) → (k : ℕ) (l : List A) → each f k l ≡ each g k l
unfolding each
each_same e k [] = refl
each_same e k (x ∷ l) = rw (e k x, each_same e (k + 1) l)
