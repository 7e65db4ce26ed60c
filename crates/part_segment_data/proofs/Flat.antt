-- Segments of four features each, read as one run of features.
-- Assumes nothing.
use Prim.Native.Nat.{ℕ, zero, suc, ◌+◌, ◌*◌, ◌/◌, ◌%◌, ◌<◌}
use mathlib.Core.Path.{◌≡◌, refl, sym, ◌∙◌}
use mathlib.Core.List.{List, [], ◌++◌, append-nil, append_assoc}
use native.Mathlib.Nat.{add-zero, zero-add}
use native.Mathlib.Omega.{arith}
use Rattle.std.specs.Prelude.{Result, Ok, Err}
use Rattle.base_bits.specs.declared.Cursor.{Cursor}
use Rattle.base_bits.specs.declared.Refusal.{Refusal}
use Rattle.base_syntax.specs.Reader.{over, Reader}
use Rattle.base_syntax.specs.Many.{Times, many, folds, each_of}
use Rattle.base_syntax.proofs.Many.{turn, turn_stop}
use Rattle.grammar_tables.specs.Tables.{FeatureValues}
use Rattle.grammar_settings.specs.Settings.{feature_row}
use Rattle.base_syntax.proofs.Rows.{grown, grown_each, over_same}

-- what is answered to a reading, and what comes after it
abbrev Told : Type 0 → Type 0
Told S = Result (S × Cursor) Refusal

abbrev follow : {S T : Type 0} → Told S → (S → ℕ → Told T) → Told T
follow (Ok x) k = k x.0 x.1.at
follow (Err e) k = Err e

module _ {S T : Type 0} where
  follow_same : (x : Told S) (k l : S → ℕ → Told T) → ((st : S) (p : ℕ) → k st p ≡ l st p) → follow x k ≡ follow x l
  follow_same (Ok x) k l h = h x.0 x.1.at
  follow_same (Err e) k l h = refl

  follow_on : (x : Told S) (k : S → ℕ → Told S) (l m : S → ℕ → Told T) → ((st : S) (p : ℕ) → m st p ≡ follow (k st p) l) → follow x m ≡ follow (follow x k) l
  follow_on (Ok x) k l m h = h x.0 x.1.at
  follow_on (Err e) k l m h = refl

-- what n readings, the first of them number i, make of a state
abbrev run : {A S : Type 0} → (S → A → S) → List ℕ → (ℕ → Reader A) → ℕ → ℕ → S → ℕ → Told S
run f s r i n st p = over (folds f n st) (many i n r s p)

module _ {A S : Type 0} (f : S → A → S) (s : List ℕ) where
  run_first : (r : ℕ → Reader A) (i n : ℕ) (st : S) (p : ℕ) → run f s r i (suc n) st p ≡ follow (over (f st) (r i s p)) (run f s r (i + 1) n)
  run_first r i n st p = go (over (f st) (r i s p)) refl
    where
      go : (x : Told S) → over (f st) (r i s p) ≡ x → run f s r i (suc n) st p ≡ follow x (run f s r (i + 1) n)
      go (Ok x) h = turn f i n r s p st x.0 x.1 (sym h)
      go (Err x) h = sym (turn_stop f i n r s p st x (sym h))

  -- m of them and then n more
  run_join : (r : ℕ → Reader A) (i m n : ℕ) (st : S) (p : ℕ) → run f s r i (m + n) st p ≡ follow (run f s r i m st p) (run f s r (i + m) n)
  run_join r i zero n st p = unfold many in unfold folds in rw (zero-add, add-zero)
  run_join r i (suc m) n st p =
      let e : suc m + n ≡ suc (m + n) = omega arith in
      let next : i + suc m ≡ i + 1 + m = omega arith in
      rw (e, next, run_first r i (m + n) st p, run_first r i m st p)
      (follow_on (over (f st) (r i s p)) (run f s r (i + 1) m) (run f s r (i + 1 + m) n) (run f s r (i + 1) (m + n)) (run_join r (i + 1) m n))

  -- the same readings under other numbers
  run_same : (r q : ℕ → Reader A) (i j n : ℕ) → ((k : ℕ) → k < n → r (i + k) ≡ q (j + k)) → (st : S) (p : ℕ) → run f s r i n st p ≡ run f s q j n st p
  run_same r q i j zero h st p = unfold many in unfold folds in refl
  run_same r q i j (suc n) h st p =
      let first : r i ≡ q j = simp add-zero at (h 0 (omega arith)) in
      rw (run_first r i n st p, run_first q j n st p, first)
      (follow_same (over (f st) (q j s p)) (run f s r (i + 1) n) (run f s q (j + 1) n) (run_same r q (i + 1) (j + 1) n rest))
    where
      rest : (k : ℕ) → k < n → r (i + 1 + k) ≡ q (j + 1 + k)
      rest k l =
          let a : i + 1 + k ≡ i + suc k = omega arith in
          let b : j + 1 + k ≡ j + suc k = omega arith in
          rw (a, b) (h (suc k) (omega arith))

module _ {A S : Type 0} (f : S → A → S) (s : List ℕ) (r : ℕ → ℕ → Reader A) where
  -- reading j of segment i is number i * 4 + j of the run
  abbrev flat : ℕ → Reader A
  flat k = r (k / 4) (k % 4)

  segment : (i k : ℕ) → k < 4 → r i (0 + k) ≡ flat (i * 4 + k)
  segment i k h =
      let a : (i * 4 + k) / 4 ≡ i = omega arith in
      let b : (i * 4 + k) % 4 ≡ k = omega arith in
      rw (a, b, zero-add)

  run_flat : (i n : ℕ) (st : S) (p : ℕ) → run (folds f 4) s (λ i. many 0 4 (r i)) i n st p ≡ run f s flat (i * 4) (n * 4) st p
  run_flat i zero st p = unfold many in unfold folds in refl
  run_flat i (suc n) st p =
      let e : suc n * 4 ≡ 4 + n * 4 = omega arith in
      let next : i * 4 + 4 ≡ (i + 1) * 4 = omega arith in
      rw (e, run_first (folds f 4) s (λ i. many 0 4 (r i)) i n st p, run_join f s flat (i * 4) 4 (n * 4) st p, ← (run_same f s (r i) flat 0 (i * 4) 4 (segment i) st p), next)
      (follow_same (run f s (r i) 0 4 st p) (run (folds f 4) s (λ i. many 0 4 (r i)) (i + 1) n) (run f s flat ((i + 1) * 4) (n * 4)) (run_flat (i + 1) n))

module _ {B : Type 0} (f : FeatureValues → B) where
  grown_rows : (n : ℕ) (l : List B) (v : Times n (Times 4 FeatureValues)) → folds (folds (grown (λ k. f)) 4) n l v ≡ l ++ feature_row f n v
  unfolding folds
  grown_rows zero l v = sym (append-nil l)
  grown_rows (suc n) l v = grown_rows n (folds (grown (λ k. f)) 4 l v.0) v.1 ∙ simp append_assoc

  -- the row of all features
  pub row_flat : (r : ℕ → ℕ → Reader FeatureValues) (s : List ℕ) (p : ℕ)
      → over (each_of f 32) (many 0 32 (λ k. r (k / 4) (k % 4)) s p) ≡ over (feature_row f 8) (many 0 8 (λ i. many 0 4 (r i)) s p)
  row_flat r s p =
      sym (over_same (folds (grown (λ k. f)) 32 []) (each_of f 32) (many 0 32 (flat (grown (λ k. f)) s r) s p) (grown_each f 32 []))
      ∙ sym (run_flat (grown (λ k. f)) s r 0 8 [] p)
      ∙ over_same (folds (folds (grown (λ k. f)) 4) 8 []) (feature_row f 8) (many 0 8 (λ i. many 0 4 (r i)) s p) (grown_rows 8 [])
