-- The numbers that were read fit, and the records that the code makes are those of the values.
-- Assumes nothing.
use Prim.Native.Nat.{ℕ}
use mathlib.Core.Path.{◌≡◌}
use mathlib.Core.Bool.{Bool}
use mathlib.Core.List.{List}
use native.Mathlib.Omega.{arith}
use mir.Val.{Fits}
use mir.Syntax.{w8}
use Rattle.std.specs.Prelude.{Result}
use Rattle.std.specs.Result.{result_from_control_flow}
use Rattle.std.proofs.Common.{Continue}
use Rattle.base_bits.specs.declared.Cursor.{Cursor}
use Rattle.base_bits.specs.declared.Refusal.{Refusal}
use Rattle.base_bits.specs.Read.{read_bits, read_bits_if}
use Rattle.part_field.specs.PastEnd.{past_end}
use Rattle.part_field.proofs.Steps.{value_lt, value_if_lt}

-- a number of two bits fits a byte
module _ (s : List ℕ) (p : ℕ) (r : Result (ℕ × Cursor) Refusal) {d : _} (n : ℕ) (c : Cursor) (t : r ≡ result_from_control_flow d) (i : d ≡ Continue (n, c)) where
  pub idx_fits : r ≡ past_end (read_bits s p 2) → Fits w8 n
  idx_fits e = record { fits = omega (arith, value_lt s p 2 r n c e t i tt) }

  pub reset_fits : (b : Bool) → r ≡ past_end (read_bits_if b s p 2) → Fits w8 n
  reset_fits b e = record { fits = omega (arith, value_if_lt b s p 2 r e tt n c t i) }
