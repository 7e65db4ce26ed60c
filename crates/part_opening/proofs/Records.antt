-- The numbers that were read fit, and the records that the code makes are those of the values.
-- Assumes nothing.
use Prim.Native.Nat.{ℕ, ◌+◌, ◌*◌, ◌<◌}
use mathlib.Core.Path.{◌≡◌}
use mathlib.Core.Bool.{Bool}
use mathlib.Core.List.{List}
use native.Mathlib.Omega.{arith}
use lib.Dec.{eqb}
use mir.Val.{Fits}
use mir.Syntax.{w8, w32}
use Rattle.std.specs.Prelude.{Result, Ok}
use Rattle.std.specs.Result.{result_from_control_flow}
use Rattle.std.proofs.Common.{Continue}
use Rattle.base_bits.specs.declared.Cursor.{Cursor}
use Rattle.base_bits.specs.declared.Refusal.{Refusal}
use Rattle.base_bits.specs.Read.{read_bits, read_bits_if}
use Rattle.base_syntax.specs.Reader.{over, read}
use Rattle.part_field.specs.PastEnd.{past_end}
use Rattle.part_field.proofs.Steps.{value_lt, value_if_lt}
use Rattle.part_opening.specs.Profile.{ProfileValues, opening_profile}
use Rattle.part_opening.specs.Opening.{opening_of}
use Rattle.part_opening.specs.declared.Opening.{Opening}

module _ (s : List ℕ) (p : ℕ) (r : Result (ℕ × Cursor) Refusal) {b : _} (h : ℕ) (c : Cursor) (e : r ≡ past_end (read_bits s p 1)) (t : r ≡ result_from_control_flow b) (i : b ≡ Continue (h, c)) where
  bit : h < 2
  bit = value_lt s p 1 r h c e t i tt

  pub twice_fits : Fits w32 (h * 2)
  twice_fits = record { fits = omega (arith, bit) }

  pub profile_fits : (q : ℕ) (o : Result (ℕ × Cursor) Refusal) {d : _} (l : ℕ) (f : Cursor) → o ≡ past_end (read_bits s q 1) → o ≡ result_from_control_flow d → d ≡ Continue (l, f) → Fits w32 (h * 2 + l)
  profile_fits q o l f eo u j = record { fits = omega (arith, bit, value_lt s q 1 o l f eo u j tt) }

-- a number of at most three bits fits a byte
pub slot_fits : (b : Bool) (s : List ℕ) (p : ℕ) (r : Result (ℕ × Cursor) Refusal) {d : _} (n : ℕ) (c : Cursor) → r ≡ past_end (read_bits_if b s p 3) → r ≡ result_from_control_flow d → d ≡ Continue (n, c) → Fits w8 n
slot_fits b s p r n c e t i = record { fits = omega (arith, value_if_lt b s p 3 r e tt n c t i) }

pub opening_read : (n x i : ℕ) (c : Cursor) (a : ProfileValues) → n ≡ opening_profile a
    → ◌≡◌ {A = Result (Opening × Cursor) Refusal} (Ok (record { profile = n; show_existing_frame = eqb x 1; frame_to_show_map_idx = i }, c)) (over opening_of (read (record { profile = a; show_existing_frame = x; frame_to_show_map_idx = i }) c.at))
unfolding opening_of
opening_read n x i c a e = rw e
