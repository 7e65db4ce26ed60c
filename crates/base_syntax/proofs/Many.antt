-- The law of a syntax that is repeated, how many bits it can have, and the steps of a loop that reads it.
-- Assumes nothing.
use Prim.Native.Nat.{ℕ, zero, suc, ◌+◌, ◌-◌, ◌≤◌, ◌<◌, zero-le, ◌*◌}
use native.Mathlib.Nat.{sub-zero}
use mathlib.Core.Path.{◌≡◌, refl, sym, ap, ◌∙◌}
use mathlib.Core.Bool.{true}
use mathlib.Core.List.{List}
use Rattle.std.specs.Prelude.{Ok, Err}
use Rattle.base_bits.specs.declared.Cursor.{Cursor}
use native.Mathlib.Omega.{arith}
use Rattle.base_bits.specs.declared.Refusal.{Refusal}
use Rattle.base_syntax.specs.Syntax.{Field, size}
use Rattle.base_syntax.specs.Reader.{Read, read, stopped, bind, over, alter, Reader, said}
use Rattle.base_syntax.specs.Law.{Any, Reads}
use Rattle.base_syntax.specs.Many.{Times, times, many_fields, many, folds}
use Rattle.base_syntax.proofs.Fields.{size_append, zeros, zeros_join}
use Rattle.base_syntax.proofs.Laws.{then, last, done}
use Rattle.base_syntax.proofs.Steps.{tail, refused, alter_over}

pub many_reads : {A : Type 0} {f : ℕ → A → List Field} {r : ℕ → Reader A} → (i n : ℕ) → ((j : ℕ) → Reads Any (f j) (r j)) → Reads Any (many_fields f i n) (many i n r)
unfolding many many_fields
many_reads i zero law = done _ tt (λ b k. refl)
many_reads {A} {f} {r} i (suc n) law =
    then (λ (b : Times (suc n) A). b.0) (law i) λ v.
    last (λ (b : Times (suc n) A). b.1) (many_reads (i + 1) n law) (λ a. (tt, refl)) (λ a. refl) (λ b k. rw (← k.1))

pub many_size : {A : Type 0} (f : ℕ → A → List Field) (m : ℕ) → ((i : ℕ) (a : A) → size (f i a) ≤ m) → (i n : ℕ) (v : Times n A) → size (many_fields f i n v) ≤ n * m
unfolding many_fields
many_size f m each i zero v = zero-le
many_size f m each i (suc n) v = rw size_append (omega (arith, each i v.0, many_size f m each (i + 1) n v.1))

pub many_zeros : {A : Type 0} (f : ℕ → A → List Field) (a : A) → ((i : ℕ) → zeros (f i a) ≡ true) → (i n : ℕ) → zeros (many_fields f i n (times n a)) ≡ true
unfolding many_fields
many_zeros f a each i zero = refl
many_zeros f a each i (suc n) = zeros_join (f i a) (many_fields f (i + 1) n (times n a)) (each i) (many_zeros f a each (i + 1) n)

module _ {A S : Type 0} (f : S → A → S) (i j : ℕ) (r : ℕ → Reader A) (s : List ℕ) (p : ℕ) (st : S) where
  -- a turn that reads
  pub turn : (st' : S) (e : Cursor) → Ok (st', e) ≡ over (f st) (r i s p) → over (folds f (suc j) st) (many i (suc j) r s p) ≡ over (folds f j st') (many (i + 1) j r s e.at)
  unfolding many folds
  turn st' e h = go (r i s p) h
    where
      go : (x : Read A) → Ok (st', e) ≡ over (f st) x
          → over (folds f (suc j) st) (bind x (λ v n. bind (many (i + 1) j r s n) (λ vs q. read (v, vs) q))) ≡ over (folds f j st') (many (i + 1) j r s e.at)
      go (read a n) h =
          let both : ◌≡◌ {A = S × Cursor} (st', e) (f st a, record { at = n }) = cc in
          let sa : st' ≡ f st a = ap (λ v. v.0) both in
          let ne : e ≡ record { at = n } = ap (λ v. v.1) both in
          rw (sa, ne) (sym (tail said (folds f (suc j) st) (λ vs q. read (a, vs) q) (folds f j (f st a)) (many (i + 1) j r s n) _ refl (λ vs q. refl)))
      go (stopped x) h = let z : ◌≡◌ {A = ℕ} 0 1 = cc in absurd (omega arith)

  -- a turn that does not
  pub turn_stop : (x : Refusal) → Err x ≡ over (f st) (r i s p) → Err x ≡ over (folds f (suc j) st) (many i (suc j) r s p)
  unfolding many folds
  turn_stop x h = refused said (f st) (r i s p) (folds f (suc j) st) (λ v n. bind (many (i + 1) j r s n) (λ vs q. read (v, vs) q)) (Err x) h refl

-- a loop that reads n of them and has done i: what is left to read, from p on with the state st, gives what the whole
-- gives
pub record Looped {A S : Type 0} (f : S → A → S) (n : ℕ) (r : ℕ → Reader A) (s : List ℕ) (p₀ : ℕ) (st₀ : S) (i p : ℕ) (st : S) : Type 0 where
  pub within : i ≤ n
  pub same : over (folds f n st₀) (many 0 n r s p₀) ≡ over (folds f (n - i) st) (many i (n - i) r s p)

pub loop_start : {A S : Type 0} (f : S → A → S) (n : ℕ) (r : ℕ → Reader A) (s : List ℕ) (p : ℕ) (st : S) → Looped f n r s p st 0 p st
loop_start f n r s p st = record { within = zero-le; same = rw sub-zero }

module _ {A S : Type 0} {f : S → A → S} {n : ℕ} {r : ℕ → Reader A} {s : List ℕ} {p₀ : ℕ} {st₀ : S} {i p : ℕ} {st : S} (l : Looped f n r s p₀ st₀ i p st) where
  pub loop_turn : {st' : S} {e : Cursor} → i < n → Ok (st', e) ≡ over (f st) (r i s p) → Looped f n r s p₀ st₀ (i + 1) e.at st'
  loop_turn {st'} {e} h t =
      let one : n - i ≡ suc (n - (i + 1)) = omega arith in
      record { within = omega (arith, l.within); same = (rw one at l.same) ∙ turn f i (n - (i + 1)) r s p st st' e t }

  module _ {B : Type 0} (g : S → B) where
    pub loop_stop : {x : Refusal} → i < n → Err x ≡ over (f st) (r i s p) → Err x ≡ over (λ v. g (folds f n st₀ v)) (many 0 n r s p₀)
    loop_stop {x} h t =
        let one : n - i ≡ suc (n - (i + 1)) = omega arith in
        ap (alter g) (turn_stop f i (n - (i + 1)) r s p st x t ∙ sym (rw one at l.same)) ∙ alter_over said g (folds f n st₀) (many 0 n r s p₀)

    pub loop_end : n ≤ i → Ok (g st, record { at = p }) ≡ over (λ v. g (folds f n st₀ v)) (many 0 n r s p₀)
    unfolding many folds
    loop_end h =
        let none : n - i ≡ 0 = omega arith in
        ap (alter g) (sym (rw none at l.same)) ∙ alter_over said g (folds f n st₀) (many 0 n r s p₀)
