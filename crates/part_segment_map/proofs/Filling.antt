-- The loop that fills a row of probabilities.
-- Assumes nothing.
use Prim.Native.Nat.{ℕ, ◌+◌, ◌≤◌, ◌<◌}
use Prim.Native.String.{String}
use mathlib.Core.Path.{◌≡◌}
use mathlib.Core.List.{List}
use lib.ListN.{set, replicate}
use Rattle.std.proofs.lemmas.List.{length-replicate}
use Rattle.std.specs.Prelude.{Result, Ok, Err}
use Rattle.std.specs.Result.{IsErrAnd}
use Rattle.base_bits.specs.declared.Cursor.{Cursor}
use Rattle.base_bits.specs.declared.Refusal.{Refusal}
use Rattle.base_bits.specs.Refusal.{item}
use Rattle.part_coded.specs.Prob.{ProbIs}
use Rattle.grammar_tables.specs.Reading.{read_prob, read_probs}
use Rattle.grammar_settings.specs.Settings.{prob_of}
use Rattle.part_segment_map.specs.Probs.{ProbsAre}
use Rattle.base_syntax.proofs.Rows.{Filled, fill_start, fill_turn, fill_stop, row_end}

-- i of n probabilities stand in the row l, under whatever names
abbrev pub ProbsFilling : ℕ → List ℕ → ℕ → ℕ → ℕ → List ℕ → Type 0
ProbsFilling n s p₀ i p l = (x y : String) → Filled (λ k. prob_of) n (λ j. read_prob (item x j) (item y j)) s p₀ i p l

pub probs_start : (n : ℕ) (s : List ℕ) (p : ℕ) → ProbsFilling n s p 0 p (replicate n 255)
probs_start n s p x y = fill_start (λ k. prob_of) n (λ j. read_prob (item x j) (item y j)) s p (replicate n 255) (length-replicate n 255)

module _ {n : ℕ} {s : List ℕ} {p₀ i p : ℕ} {l : List ℕ} (h : ProbsFilling n s p₀ i p l) where
  pub probs_end : n ≤ i → ProbsAre s p₀ n (Ok (l, record { at = p }))
  unfolding read_probs
  probs_end all x y = row_end (h x y) all

  module _ (more : i < n) (r : Result (ℕ × Cursor) Refusal) (is : ProbIs s p r) where
    pub probs_stop : {e : Refusal} (y : Result (List ℕ × Cursor) Refusal) → r ≡ Err e → IsErrAnd y (λ w. w ≡ e) → ProbsAre s p₀ n y
    unfolding read_probs
    probs_stop o t e x y = fill_stop (h x y) _ o more (rw t at (is (item x i) (item y i))) e

    pub probs_turn : (b : ℕ) (c : Cursor) → r ≡ Ok (b, c) → ProbsFilling n s p₀ (i + 1) c.at (set l i b)
    probs_turn b c t x y = fill_turn (h x y) more (rw t at (is (item x i) (item y i)))
