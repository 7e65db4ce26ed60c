-- A loop that fills a row from the front with what it makes of the values that it reads.
-- Assumes nothing.
use Prim.Native.Nat.{ℕ, zero, suc, ◌+◌, ◌≤◌, ◌<◌}
use mathlib.Core.Path.{◌≡◌, refl, sym, ap, ◌∙◌}
use mathlib.Core.List.{List, [], ◌∷◌, ◌++◌, append_assoc, append-nil}
use native.Mathlib.Numerals.{add-one}
use native.Mathlib.Omega.{arith}
use lib.ListN.{length, take, set, replicate}
use lib.Seq.{take-suc-set}
use Rattle.std.specs.Prelude.{Result, Ok, Err}
use Rattle.std.specs.Result.{IsErrAnd}
use Rattle.std.proofs.lemmas.List.{length-replicate, length-set, take_all}
use Rattle.std.proofs.lemmas.Result.{err_from_is_err_and}
use Rattle.base_bits.specs.declared.Cursor.{Cursor}
use Rattle.base_bits.specs.declared.Refusal.{Refusal}
use Rattle.base_syntax.specs.Reader.{Read, read, stopped, over, Reader, alter, said}
use Rattle.base_syntax.specs.Many.{Times, many, folds, times, each_of}
use Rattle.base_syntax.proofs.Steps.{alter_over}
use Rattle.base_syntax.proofs.Many.{Looped, loop_start, loop_turn, loop_stop, loop_end}

-- an answer seen through another record: a value, a refusal, and two values at once
pub seen : {A B C : Type 0} (g : B → C) (f : A → B) (m : Read A) {b : B} {e : Cursor} → Ok (b, e) ≡ over f m → Ok (g b, e) ≡ over (λ a. g (f a)) m
seen g f m h = ap (alter g) h ∙ alter_over said g f m

pub unseen : {A B C : Type 0} (g : A → C) (f : A → B) (m : Read A) {x : Refusal} → Err x ≡ over f m → Err x ≡ over g m
unseen g f (read a q) e = let z : ◌≡◌ {A = ℕ} 0 1 = cc in absurd (omega arith)
unseen g f (stopped w) {x} e = let xw : x ≡ w.refusal = cc in rw xw

pub both : {A B C D : Type 0} (f : A → B) (g : A → C) (h : B → C → D) (m : Read A) {b : B} {c : C} {p : Cursor} → Ok (b, p) ≡ over f m → Ok (c, p) ≡ over g m → Ok (h b c, p) ≡ over (λ a. h (f a) (g a)) m
both {A} {B} {C} f g h (read a q) {b} {c} {p} x y =
    let first : ◌≡◌ {A = B × Cursor} (b, p) (f a, record { at = q }) = cc in
    let second : ◌≡◌ {A = C × Cursor} (c, p) (g a, record { at = q }) = cc in
    rw (ap (λ v. v.0) first, ap (λ v. v.0) second, ap (λ v. v.1) first)
both f g h (stopped w) x y = let z : ◌≡◌ {A = ℕ} 0 1 = cc in absurd (omega arith)

pub over_same : {A B : Type 0} (f g : A → B) (m : Read A) → ((a : A) → f a ≡ g a) → over f m ≡ over g m
over_same f g (read a p) h = rw (h a)
over_same f g (stopped w) h = refl

-- a row with one more value, which may go by those before it
abbrev pub grown : {A B : Type 0} → (List B → A → B) → List B → A → List B
grown g l a = l ++ (g l a ∷ [])

pub grown_each : {A B : Type 0} (f : A → B) (n : ℕ) (l : List B) (v : Times n A) → folds (grown (λ k. f)) n l v ≡ l ++ each_of f n v
unfolding folds
grown_each f zero l v = sym (append-nil l)
grown_each f (suc n) l v = grown_each f n (grown (λ k. f) l v.0) v.1 ∙ append_assoc l (f v.0 ∷ []) (each_of f n v.1)

-- of the row l of n places, the first i hold what g makes of the values read so far
pub record Filled {A B : Type 0} (g : List B → A → B) (n : ℕ) (r : ℕ → Reader A) (s : List ℕ) (p₀ i p : ℕ) (l : List B) : Type 0 where
  pub size : length l ≡ n
  pub front : Looped (grown g) n r s p₀ [] i p (take i l)

pub fill_start : {A B : Type 0} (g : List B → A → B) (n : ℕ) (r : ℕ → Reader A) (s : List ℕ) (p : ℕ) (l : List B) → length l ≡ n → Filled g n r s p 0 p l
fill_start g n r s p l e = record { size = e; front = loop_start (grown g) n r s p [] }

module _ {A B : Type 0} {g : List B → A → B} {n : ℕ} {r : ℕ → Reader A} {s : List ℕ} {p₀ i p : ℕ} {l : List B} (h : Filled g n r s p₀ i p l) where
  pub fill_turn : {b : B} {e : Cursor} → i < n → Ok (b, e) ≡ over (g (take i l)) (r i s p) → Filled g n r s p₀ (i + 1) e.at (set l i b)
  fill_turn {b} {e} more t = record {
    size = length-set l i b ∙ h.size;
    front = loop_turn h.front more (rw (add-one, take-suc-set l i b (omega (arith, h.size))) (seen (λ c. take i l ++ (c ∷ [])) (g (take i l)) (r i s p) t));
  }

  pub fill_stop : {C : Type 0} (f : Times n A → C) {x : Refusal} (y : Result (C × Cursor) Refusal) → i < n → Err x ≡ over (g (take i l)) (r i s p) → IsErrAnd y (λ e. e ≡ x) → y ≡ over f (many 0 n r s p₀)
  fill_stop f y more t e =
      let is = err_from_is_err_and y e in
      rw (is.1, is.2) (unseen f (folds (grown g) n []) (many 0 n r s p₀) (loop_stop h.front (λ c. c) more (unseen (grown g (take i l)) (g (take i l)) (r i s p) t)))

  pub fill_end : n ≤ i → Ok (l, record { at = p }) ≡ over (folds (grown g) n []) (many 0 n r s p₀)
  fill_end all =
      let whole : take i l ≡ l = take_all i l (omega (arith, h.size)) in
      rw whole at (loop_end h.front (λ c. c) all)

-- where each value stands for itself
pub row_end : {A B : Type 0} {f : A → B} {n : ℕ} {r : ℕ → Reader A} {s : List ℕ} {p₀ i p : ℕ} {l : List B} → Filled (λ k. f) n r s p₀ i p l → n ≤ i → Ok (l, record { at = p }) ≡ over (each_of f n) (many 0 n r s p₀)
row_end {f = f} {n = n} {r = r} {s = s} {p₀ = p₀} h all = fill_end h all ∙ over_same (folds (grown (λ k. f)) n []) (each_of f n) (many 0 n r s p₀) (grown_each f n [])

-- a row that is the same all over
pub same_row : {A B : Type 0} (f : A → B) (a : A) (n : ℕ) → replicate n (f a) ≡ each_of f n (times n a)
same_row f a zero = refl
same_row f a (suc n) = ap (λ l. f a ∷ l) (same_row f a n)
