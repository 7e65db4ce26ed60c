-- The law of a run of bits, and a loop that counts them.
-- Assumes nothing.
use Prim.Native.Nat.{ℕ, suc, ◌+◌, ◌-◌, ◌≤◌, ◌<◌, zero-le}
use Prim.Native.String.{String}
use mathlib.Core.Path.{◌≡◌, refl, sym, ap, ◌∙◌}
use mathlib.Core.List.{List}
use native.Mathlib.Nat.{sub-zero, zero-add}
use native.Mathlib.Omega.{arith}
use borrow.Author.Tests.{eq-eqb, ne_eqb}
use Rattle.std.specs.Prelude.{Result, Ok}
use Rattle.std.specs.Result.{IsErrAnd, result_from_control_flow}
use Rattle.std.proofs.Common.{Continue, Break}
use Rattle.std.proofs.lemmas.Result.{err_from_is_err_and}
use Rattle.base_bits.specs.declared.Cursor.{Cursor}
use Rattle.base_bits.specs.declared.Refusal.{Refusal}
use Rattle.base_bits.specs.Refusal.{item}
use Rattle.base_bits.specs.Read.{read_bits}
use Rattle.base_syntax.specs.Reader.{Read, read, stopped, bind, over}
use Rattle.part_field.specs.PastEnd.{past_end}
use Rattle.part_field.proofs.Steps.{field_read, field_short}
use Rattle.grammar_tables.specs.Reading.{read_run}

-- a loop that has counted k: what is left to read, from p on, and k more gives what the whole gives
pub record Counted (x : String) (b n : ℕ) (s : List ℕ) (p₀ k p : ℕ) : Type 0 where
  pub within : k ≤ n
  pub same : over (λ a. a) (read_run x b 0 n s p₀) ≡ over (k +◌) (read_run x b k (n - k) s p)

plain : (m : Read ℕ) → over (λ a. a) m ≡ over (0 +◌) m
plain (read a p) = rw zero-add
plain (stopped w) = refl

pub counted_none : (x : String) (b n : ℕ) (s : List ℕ) (p : ℕ) → Counted x b n s p 0 p
counted_none x b n s p = record { within = zero-le; same = rw sub-zero (plain (read_run x b 0 n s p)) }

up : (k : ℕ) (m : Read ℕ) → over (k +◌) (bind m (λ a q. read (suc a) q)) ≡ over ((k + 1) +◌) m
up k (read a p) = ap (λ x. Ok (x, record { at = p })) (omega arith)
up k (stopped w) = refl

one_left : (n k : ℕ) → k < n → n - k ≡ suc (n - (k + 1))
one_left n k h = omega arith

module _ {x : String} {b n : ℕ} {s : List ℕ} {p₀ k p : ℕ} (l : Counted x b n s p₀ k p) where
  module _ (h : k < n) (r : Result (ℕ × Cursor) Refusal) (e : r ≡ past_end (read_bits s p 1)) {d : _} (f : r ≡ result_from_control_flow d) where
    pub counted_more : (a : ℕ) (c : Cursor) → d ≡ Continue (a, c) → a ≡ b → Counted x b n s p₀ (k + 1) c.at
    unfolding read_run
    counted_more a c t ab = record {
      within = omega arith;
      same = (rw (one_left n k h, field_read (item x k) s p 1 e (rw t at f) tt, eq-eqb a b ab) at l.same) ∙ up k (read_run x b (k + 1) (n - (k + 1)) s c.at);
    }

    pub counted_end : (a : ℕ) (c : Cursor) → d ≡ Continue (a, c) → (a ≡ b → ⊥) → Ok (k, c) ≡ over (λ a. a) (read_run x b 0 n s p₀)
    unfolding read_run
    counted_end a c t nb =
        let z : k + 0 ≡ k = omega arith in
        sym (rw (one_left n k h, field_read (item x k) s p 1 e (rw t at f) tt, ne_eqb a b nb, z) at l.same)

    pub counted_short : {u : _} (y : Result (ℕ × Cursor) Refusal) → d ≡ Break u → IsErrAnd y (λ w. w ≡ u.0) → y ≡ over (λ a. a) (read_run x b 0 n s p₀)
    unfolding read_run
    counted_short {u} y t i =
        let j = err_from_is_err_and y i in
        let short = field_short (item x k) s p 1 r u.0 e (rw t at f) tt in
        rw (j.1, j.2, short.1) (sym (rw (one_left n k h, short.0) at l.same))

  pub counted_full : n ≤ k → Ok (k, record { at = p }) ≡ over (λ a. a) (read_run x b 0 n s p₀)
  unfolding read_run
  counted_full h =
      let none : n - k ≡ 0 = omega arith in
      let z : k + 0 ≡ k = omega arith in
      sym (rw (none, z) at l.same)
