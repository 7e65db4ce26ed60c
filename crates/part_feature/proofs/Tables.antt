-- What a table has at a place, and a value of the width that the features' table gives.
-- Assumes nothing.
use Prim.Native.Nat.{ℕ, ◌≤◌, ◌<◌}
use mathlib.Core.Path.{◌≡◌, refl, sym}
use mathlib.Core.Bool.{Bool}
use mathlib.Core.List.{List}
use native.Mathlib.Omega.{arith}
use lib.Dec.{T, leb, le→leb}
use lib.Pow.{pow_mono}
use Rattle.std.specs.Prelude.{Result, Option, None, Some, IfSome, is_some, get_or, ltb, length}
use Rattle.std.specs.Option.{unwrap_or, option_copied}
use Rattle.std.proofs.Common.{Bor}
use Rattle.std.proofs.lemmas.Option.{get_or_from_slice_get, slice_get_read}
use lib.ListN.{get_or-eq_default}
use borrow.Author.Tests.{ltb-true, ltb-false}
use Rattle.std.specs.Result.{IsErrAnd, result_from_control_flow}
use Rattle.std.proofs.Common.{Continue, Break}
use Rattle.base_bits.specs.declared.Cursor.{Cursor}
use Rattle.base_bits.specs.declared.Refusal.{Refusal}
use Rattle.base_bits.specs.Refusal.{Name}
use Rattle.base_bits.specs.Read.{read_bits_if}
use Rattle.base_syntax.specs.Reader.{Read, bind, over, field_if}
use Rattle.part_field.specs.PastEnd.{past_end}
use Rattle.part_field.proofs.Steps.{value_if_lt, step_if, stop_if}
use Rattle.grammar_tables.specs.Tables.{feature_bits}
use Rattle.grammar_tables.proofs.Laws.{bits_small}

-- `get`, of a place that may lie past the end, with a value for that case
pub looked_up : {X : Type 0} (l : List X) (i : ℕ) (d : X) (r : Option (Bor X)) → is_some r ≡ ltb i (length l) → IfSome r (λ x. x.now ≡ get_or l i x.now) → unwrap_or (option_copied r) d ≡ get_or l i d
looked_up l i d None e h = sym (get_or-eq_default l d (ltb-false i (length l) (sym e)))
looked_up l i d (Some x) e h = sym (get_or_from_slice_get l i x.now d (slice_get_read l (length l) i x.now refl (ltb-true i (length l) (sym e)) h))

-- feature j's value, of n bits
module _ (b : Bool) (s : List ℕ) (p j n : ℕ) (wide : n ≡ feature_bits j) (r : Result (ℕ × Cursor) Refusal) (e : r ≡ past_end (read_bits_if b s p n)) where
  few : T (leb n 31)
  few = le→leb n 31 (omega (arith, bits_small j))

  module _ {A B : Type 0} (x : Name) (f : A → B) (k : ℕ → ℕ → Read A) where
    pub value_step : {d : _} (v : ℕ × Cursor) (y : Result (B × Cursor) Refusal) → r ≡ result_from_control_flow d → d ≡ Continue v → y ≡ over f (k v.0 v.1.at) → y ≡ over f (bind (field_if b x (feature_bits j) s p) k)
    value_step v y t u m = rw (← wide) (step_if b b refl x s p n f k r e few v y t u m)

    pub value_stop : {d : _} {z : _} (y : Result (B × Cursor) Refusal) → r ≡ result_from_control_flow d → d ≡ Break z → IsErrAnd y (λ w. w ≡ z.0) → y ≡ over f (bind (field_if b x (feature_bits j) s p) k)
    value_stop y t u i = rw (← wide) (stop_if b b refl x s p n f k r e few y t u i)

  pub value_small : {d : _} (m : ℕ) (c : Cursor) → r ≡ result_from_control_flow d → d ≡ Continue (m, c) → m < 256
  value_small m c t u =
      let narrow : n ≤ 8 = omega (arith, bits_small j) in
      omega (arith, value_if_lt b s p n r e few m c t u, pow_mono narrow)
