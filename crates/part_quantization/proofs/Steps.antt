-- The step of a delta's reading, whichever of the three it is.
-- Assumes nothing.
use Prim.Native.Nat.{ℕ}
use mathlib.Core.Path.{◌≡◌}
use mathlib.Core.List.{List}
use lib.IntN.{ℤ}
use Rattle.std.specs.Prelude.{Result}
use Rattle.std.specs.Result.{IsErrAnd, result_from_control_flow}
use Rattle.std.proofs.Common.{Continue, Break}
use Rattle.base_bits.specs.declared.Cursor.{Cursor}
use Rattle.base_bits.specs.declared.Refusal.{Refusal}
use Rattle.base_syntax.specs.Reader.{Read, read, stopped, bind, over, said}
use Rattle.base_syntax.proofs.Steps.{group_step, group_stop}
use Rattle.grammar_tables.specs.Tables.{DeltaValues}
use Rattle.part_quantization.specs.Quantizer.{DeltaQIs}
use Rattle.grammar_tables.specs.Reading.{read_delta_q}
use Rattle.grammar_settings.specs.Settings.{delta_value}

-- a reading with nothing after it
pub alone : {B D : Type 0} (f : B → D) (m : Read B) (o : Result (D × Cursor) Refusal) → o ≡ over f (bind m (λ a q. read a q)) → o ≡ over f m
alone f (read a q) o h = h
alone f (stopped w) o h = h

module _ {B D : Type 0} (s : List ℕ) (p : ℕ) (f : B → D) (r : Result (ℤ × Cursor) Refusal) (i : ℕ) (k : DeltaValues → ℕ → Read B) (e : DeltaQIs s p r) where
  pub delta_q_stop : {b : _} {z : _} (o : Result (D × Cursor) Refusal) → r ≡ result_from_control_flow b → b ≡ Break z → IsErrAnd o (λ w. w ≡ z.0) → o ≡ over f (bind (read_delta_q i s p) k)
  delta_q_stop = group_stop said delta_value (read_delta_q i s p) f k r (e i)

  pub delta_q_step : {b : _} (v : ℤ × Cursor) (o : Result (D × Cursor) Refusal) → r ≡ result_from_control_flow b → b ≡ Continue v → ((a : DeltaValues) → v.0 ≡ delta_value a → o ≡ over f (k a v.1.at)) → o ≡ over f (bind (read_delta_q i s p) k)
  delta_q_step = group_step said delta_value (read_delta_q i s p) f k r (e i)
