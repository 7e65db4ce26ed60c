-- The first refusal among verdicts.
-- Assumes nothing.
use Prim.Native.Nat.{ℕ, zero, suc, ◌+◌, ◌<◌, ◌≤◌}
use mathlib.Core.Path.{◌≡◌, refl}
use mathlib.Core.Logic.{⊎_elim}
use native.Mathlib.Nat.{eq-or-lt_of_le}
use native.Mathlib.Omega.{arith}
use Rattle.base_bits.specs.declared.Refusal.{Refusal}
use Rattle.base_shared.proofs.Order.{below}
use Rattle.header_verdict.specs.Verdict.{Verdict, Accepted, Refused}
use Rattle.chunk_judged.specs.Frames.{FaultFound, none, fault, fault_at, first_fault}

-- the verdicts from i on, up to j, are accepted
abbrev pub Good : (ℕ → Verdict) → ℕ → ℕ → Type 0
Good v i j = (k : ℕ) → i ≤ k → k < j → v k ≡ Accepted

-- what a search for the first refusal found
abbrev pub Found : (ℕ → Verdict) → ℕ → ℕ → FaultFound → Type 0
Found v i n none = Good v i (i + n)
Found v i n (fault k e) = (i ≤ k) × (k < i + n) × Good v i k × (v k ≡ Refused e)

module _ (v : ℕ → Verdict) where
  pub found : (i n : ℕ) → Found v i n (first_fault v i n)
  unfolding first_fault
  found i zero = λ k l h. absurd (omega arith)
  found i (suc n) = go (v i) refl (first_fault v (i + 1) n) (found (i + 1) n)
    where
      next : v i ≡ Accepted → (j : ℕ) → Good v (i + 1) j → Good v i j
      next a j g k l h = ⊎_elim (λ e. rw e at a) (λ m. g k (omega arith) h) (eq-or-lt_of_le {n = i} {m = k} l)

      go : (x : Verdict) → v i ≡ x → (f : FaultFound) → Found v (i + 1) n f → Found v i (suc n) (fault_at i x f)
      go Accepted a none g = next a (i + suc n) (λ k l h. g k l (omega arith))
      go Accepted a (fault k e) g = (omega (arith, g.0), omega (arith, g.1), next a k g.2, g.3)
      go (Refused e) a f g = (omega arith, omega arith, λ k l h. absurd (omega arith), a)

  -- a verdict is one
  differ : {A : Type 0} (k : ℕ) (e : Refusal) → v k ≡ Accepted → v k ≡ Refused e → A
  differ k e a r = let z : ◌≡◌ {A = ℕ} 0 1 = cc in absurd (omega arith)

  -- no search finds two
  pub one_found : (i n : ℕ) (f g : FaultFound) → Found v i n f → Found v i n g → f ≡ g
  one_found i n none none x y = refl
  one_found i n none (fault k e) x y = differ k e (x k y.0 y.1) y.3
  one_found i n (fault k e) none x y = differ k e (y k x.0 x.1) x.3
  one_found i n (fault k e) (fault l d) x y =
      ⊎_elim (λ h. differ k e (y.2 k x.0 h) x.3)
      (λ h. ⊎_elim (λ q. let w : v k ≡ Refused d = rw q at y.3 in let z : e ≡ d = cc in cc) (λ m. differ l d (x.2 l y.0 m) y.3) (eq-or-lt_of_le {n = l} {m = k} h))
      (below k l)
