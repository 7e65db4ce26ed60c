-- The laws of numbers and variants, once for every enum.
-- Assumes nothing.
use mathlib.Core.Path.{◌≡◌, refl, sym, ◌∙◌}
use mathlib.Core.List.{List, [], ◌∷◌}
use mathlib.Core.Bool.{Bool, true, false}
use Prim.Native.Nat.{ℕ, zero, suc, ◌<◌}
use native.Mathlib.Omega.{arith}
use lib.Dec.{T, eqb}
use borrow.Author.Tests.{ne_eqb, eqb-true, eqb-false}
use Rattle.std.specs.Prelude.{Ok, Err}
use Rattle.base_shared.specs.Choice.{pick}
use Rattle.base_enums.specs.Numbered.{numbered, Decides}

-- The law: a list that answers each variant to its number is a decision over every number.
module _ {A : Type 0} (f : A → ℕ) where
  abbrev pub Listed : List A → Type 0
  Listed l = (a : A) → numbered f l (f a) ≡ Ok a

  sound : (l : List A) (n : ℕ) (a : A) → numbered f l n ≡ Ok a → n ≡ f a
  sound [] n a e = absurd cc
  sound (b ∷ l) n a e = go (eqb n (f b)) refl (sound l n a) e
    where
      go : (t : Bool) → eqb n (f b) ≡ t → (numbered f l n ≡ Ok a → n ≡ f a) → pick t (Ok b) (numbered f l n) ≡ Ok a → n ≡ f a
      go true h later e = let ba : b ≡ a = cc in rw (← ba) (eqb-true n (f b) h)
      go false h later e = later e

  nowhere : (l : List A) (n : ℕ) → ((a : A) → n ≡ f a → ⊥) → numbered f l n ≡ Err (record {})
  nowhere [] n h = refl
  nowhere (b ∷ l) n h = rw (ne_eqb n (f b) (h b)) (nowhere l n h)

  pub decides : (l : List A) → Listed l → Decides f (numbered f l)
  decides l listed = record { accepts = λ n a. (sound l n a, from n a); refuses = λ n. (none_of n, nowhere l n) }
    where
      from : (n : ℕ) (a : A) → n ≡ f a → numbered f l n ≡ Ok a
      from n a e = rw e (listed a)

      none_of : (n : ℕ) → numbered f l n ≡ Err (record {}) → (a : A) → n ≡ f a → ⊥
      none_of n h a e = let z = sym (from n a e) ∙ h in absurd cc

both : (a b : Bool) → T (pick a b false) → (a ≡ true) × T b
both true b t = (refl, t)
both false b t = absurd t

-- Each number below k comes back, where a test that is computed says so.
module _ {A : Type 0} (f : A → ℕ) (g : ℕ → A) where
  abbrev pub comes_back_lem : ℕ → Bool
  comes_back_lem zero = true
  comes_back_lem (suc k) = pick (eqb (f (g k)) k) (comes_back_lem k) false

  pub comes_back : (k : ℕ) → T (comes_back_lem k) → (n : ℕ) → n < k → f (g n) ≡ n
  comes_back zero t n h = absurd (omega arith)
  comes_back (suc k) t n h =
      let tests = both (eqb (f (g k)) k) (comes_back_lem k) t in
      go (eqb n k) refl (eqb-true (f (g k)) k tests.0) (comes_back k tests.1 n)
    where
      go : (b : Bool) → eqb n k ≡ b → f (g k) ≡ k → (n < k → f (g n) ≡ n) → f (g n) ≡ n
      go true e top below = rw (eqb-true n k e) top
      go false e top below = below (omega (arith, eqb-false n k e))
