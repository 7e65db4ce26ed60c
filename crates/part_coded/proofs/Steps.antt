-- What the callers of `read_delta` learn of it, as steps along their readings.
-- Assumes nothing.
use Prim.Native.Nat.{ℕ, ◌+◌}
use mathlib.Core.Path.{◌≡◌, refl, sym, ◌∙◌}
use mathlib.Core.Bool.{Bool, true, false}
use mathlib.Core.List.{List}
use native.Mathlib.Omega.{arith}
use Rattle.std.specs.Prelude.{Result, Ok, Err}
use Rattle.std.specs.Result.{IsErrAnd, result_from_control_flow}
use Rattle.std.proofs.Common.{Continue, Break}
use Rattle.std.proofs.lemmas.Result.{err_from_is_err_and}
use Rattle.base_bits.specs.declared.BitsError.{BitsError}
use Rattle.base_bits.specs.declared.BitsError.TheVariants.{Short}
use Rattle.base_bits.specs.declared.Cursor.{Cursor}
use Rattle.base_bits.specs.declared.Refusal.{Refusal}
use Rattle.base_bits.specs.declared.Refusal.TheVariants.{PastEnd}
use Rattle.base_bits.specs.Bit.{number, fits}
use Rattle.base_bits.specs.Refusal.{Name}
use Rattle.base_shared.specs.Choice.{pick}
use Rattle.base_syntax.specs.Fault.{Reason, cut_at}
use Rattle.base_syntax.specs.Reader.{Read, read, stopped, bind, field, field_if, tell, over, said}
use Rattle.base_syntax.proofs.Steps.{group_step}
use Rattle.part_coded.specs.declared.Delta.{Delta}
use Rattle.part_coded.specs.Delta.{delta_of, NarrowIs}
use Rattle.grammar_tables.specs.Tables.{DeltaValues}
use Rattle.grammar_tables.specs.Reading.{read_delta}

-- a reading that stops only past the end
abbrev Cut : {A : Type 0} → Read A → Type 0
Cut m = (w : Reason) → m ≡ stopped w → w.refusal ≡ PastEnd

cut_bind : {A B : Type 0} (m : Read A) (k : A → ℕ → Read B) → Cut m → ((a : A) (p : ℕ) → Cut (k a p)) → Cut (bind m k)
cut_bind (read a p) k h t w e = t a p w e
cut_bind (stopped v) k h t w e = let q : ◌≡◌ {A = Reason} v w = cc in rw q at (h v refl)

cut_read : {A : Type 0} (a : A) (p : ℕ) → Cut (read a p)
cut_read a p w e = let z : ◌≡◌ {A = ℕ} 0 1 = cc in absurd (omega arith)

cut_field : (x : Name) (n : ℕ) (s : List ℕ) (p : ℕ) → Cut (field x n s p)
unfolding field
cut_field x n s p = go (fits s p n)
  where
    go : (b : Bool) → Cut (pick b (read (number s p n) (p + n)) (stopped (cut_at x n s p)))
    go true w e = cut_read _ _ w e
    go false w e = let v : w ≡ cut_at x n s p = cc in rw v refl

cut_field_if : (b : Bool) (x : Name) (n : ℕ) (s : List ℕ) (p : ℕ) → Cut (field_if b x n s p)
unfolding field_if
cut_field_if true x n s p = cut_field x n s p
cut_field_if false x n s p = cut_read _ _

module _ (x y z : Name) (n : ℕ) (s : List ℕ) (p : ℕ) where
  delta_cut : Cut (read_delta x y z n s p)
  unfolding read_delta
  delta_cut = cut_bind _ _ (cut_field x 1 s p) (λ u p. cut_bind _ _ (cut_field_if _ y n s p) (λ m p. cut_bind _ _ (cut_field_if _ z 1 s p) (λ g p. cut_read _ _)))

  module _ {B D : Type 0} (f : B → D) (k : DeltaValues → ℕ → Read B) (r : Result (Delta × Cursor) BitsError) (e : NarrowIs s p n r) where
    pub delta_step : {b : _} (v : Delta × Cursor) (o : Result (D × Cursor) Refusal) → r ≡ result_from_control_flow b → b ≡ Continue v → ((a : DeltaValues) → v.0 ≡ delta_of a → o ≡ over f (k a v.1.at)) → o ≡ over f (bind (read_delta x y z n s p) k)
    delta_step v o d h t = group_step said delta_of (read_delta x y z n s p) f k (Ok v) (go (read_delta x y z n s p) (sym (rw h at d) ∙ e x y z)) v o refl refl t
      where
        go : (m : Read DeltaValues) → Ok v ≡ tell (λ w. Short) delta_of m → Ok v ≡ over delta_of m
        go (read a p) q = cc
        go (stopped w) q = let z : ◌≡◌ {A = ℕ} 0 1 = cc in absurd (omega arith)

    pub delta_stop : {b : _} {u : _} (o : Result (D × Cursor) Refusal) → r ≡ result_from_control_flow b → b ≡ Break u → IsErrAnd o (λ w. w ≡ PastEnd) → o ≡ over f (bind (read_delta x y z n s p) k)
    delta_stop {b} {u} o d h i = go (read_delta x y z n s p) (delta_cut) (sym (rw h at d) ∙ e x y z)
      where
        go : (m : Read DeltaValues) → Cut m → Err u.0 ≡ tell (λ w. Short) delta_of m → o ≡ over f (bind m k)
        go (read a p) c q = let z : ◌≡◌ {A = ℕ} 0 1 = cc in absurd (omega arith)
        go (stopped w) c q = let j = err_from_is_err_and o i in rw (j.1, j.2, c w refl)
