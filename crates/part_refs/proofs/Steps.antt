-- The step of a reference's reading, whichever of the three it is.
-- Assumes nothing.
use Prim.Native.Nat.{ℕ}
use mathlib.Core.Path.{◌≡◌}
use mathlib.Core.List.{List}
use Rattle.std.specs.Prelude.{Result}
use Rattle.std.specs.Result.{IsErrAnd, result_from_control_flow}
use Rattle.std.proofs.Common.{Continue, Break}
use Rattle.base_bits.specs.declared.Cursor.{Cursor}
use Rattle.base_bits.specs.declared.Refusal.{Refusal}
use Rattle.base_syntax.specs.Reader.{Read, bind, over, said}
use Rattle.base_syntax.proofs.Steps.{group_step, group_stop}
use Rattle.part_refs.specs.declared.Ref.{Ref}
use Rattle.part_refs.specs.Refs.{ref_of, RefIs}
use Rattle.grammar_tables.specs.Tables.{RefValues}
use Rattle.grammar_tables.specs.Reading.{read_ref}

module _ {B D : Type 0} (s : List ℕ) (p : ℕ) (f : B → D) (r : Result (Ref × Cursor) Refusal) (i : ℕ) (k : RefValues → ℕ → Read B) (e : RefIs s p r) where
  pub ref_stop : {b : _} {z : _} (o : Result (D × Cursor) Refusal) → r ≡ result_from_control_flow b → b ≡ Break z → IsErrAnd o (λ w. w ≡ z.0) → o ≡ over f (bind (read_ref i s p) k)
  ref_stop = group_stop said ref_of (read_ref i s p) f k r (e i)

  pub ref_step : {b : _} (v : Ref × Cursor) (o : Result (D × Cursor) Refusal) → r ≡ result_from_control_flow b → b ≡ Continue v → ((a : RefValues) → v.0 ≡ ref_of a → o ≡ over f (k a v.1.at)) → o ≡ over f (bind (read_ref i s p) k)
  ref_step = group_step said ref_of (read_ref i s p) f k r (e i)
