-- The records that the code makes are those of the values.
-- Assumes nothing.
use Prim.Native.Nat.{ℕ}
use mathlib.Core.Path.{◌≡◌, refl, sym, ◌∙◌}
use mathlib.Core.List.{List}
use mathlib.Core.Bool.{Bool, ◌&&◌}
use native.Mathlib.Omega.{arith}
use lib.Dec.{eqb}
use lib.IntN.{ℤ, pos, negsuc, nat_abs}
use mir.Val.{Fits, SFits, to_z, of_z}
use mir.Facts.{to_z-of_z}
use mir.Syntax.{w8}
use borrow.Author.Tests.{eq-eqb, ne_eqb}
use Rattle.std.specs.Prelude.{Result, Ok}
use Rattle.std.specs.Result.{result_from_control_flow}
use Rattle.std.proofs.Common.{Continue}
use Rattle.base_bits.specs.declared.Cursor.{Cursor}
use Rattle.base_bits.specs.declared.Refusal.{Refusal}
use Rattle.base_bits.specs.Read.{read_bits}
use Rattle.base_syntax.specs.Reader.{over, read}
use Rattle.part_field.specs.PastEnd.{past_end}
use Rattle.part_field.proofs.Steps.{value_lt}
use Rattle.part_coded.specs.declared.Delta.{Delta}
use Rattle.part_coded.specs.Delta.{delta_of}
use Rattle.grammar_tables.specs.Tables.{DeltaValues}
use Rattle.base_quantization.specs.declared.QuantizationParams.{QuantizationParams}
use Rattle.grammar_settings.specs.Settings.{quantizer_of, delta_value}

pub base_fits : (s : List ℕ) (p : ℕ) (r : Result (ℕ × Cursor) Refusal) {b : _} (n : ℕ) (c : Cursor) → r ≡ past_end (read_bits s p 8) → r ≡ result_from_control_flow b → b ≡ Continue (n, c) → Fits w8 n
base_fits s p r n c e d h = record { fits = value_lt s p 8 r n c e d h tt }

pub delta_q_lem : (d : Delta) (v : DeltaValues) (c : Cursor) → d ≡ delta_of v → SFits w8 d.value
    → ◌≡◌ {A = Result (ℤ × Cursor) Refusal} (Ok (to_z w8 (of_z w8 d.value), c)) (over delta_value (read v c.at))
unfolding delta_value delta_of
delta_q_lem d v c e f = rw (to_z-of_z f, e)

pub quantizer : (b : ℕ) (c : Cursor) (y d a : ℤ) (yv dv av : DeltaValues) → y ≡ delta_value yv → d ≡ delta_value dv → a ≡ delta_value av → SFits w8 y → SFits w8 d → SFits w8 a
    → ◌≡◌ {A = Result (QuantizationParams × Cursor) Refusal}
    (Ok (record { base_q_idx = b; delta_q_y_dc = to_z w8 (of_z w8 y); delta_q_uv_dc = to_z w8 (of_z w8 d); delta_q_uv_ac = to_z w8 (of_z w8 a) }, c))
    (over quantizer_of (read (record { base_q_idx = b; delta_q_y_dc = yv; delta_q_uv_dc = dv; delta_q_uv_ac = av }) c.at))
unfolding quantizer_of
quantizer b c y d a yv dv av ey ed ea fy fd fa = rw (to_z-of_z fy, to_z-of_z fd, to_z-of_z fa, ey, ed, ea)

-- a number of 8 bits is 0 exactly if its bits are
bits_zero : (z : ℤ) → SFits w8 z → of_z w8 z ≡ 0 → nat_abs z ≡ 0
bits_zero (pos n) f e = e
bits_zero (negsuc n) f e = absurd (omega (arith, f.sfits))

zero_bits : (z : ℤ) → nat_abs z ≡ 0 → of_z w8 z ≡ 0
zero_bits (pos n) e = e
zero_bits (negsuc n) e = absurd (omega arith)

-- of tests in a row, one that held, and one that failed and so is the answer
module _ (a b : ℕ) (t : Bool) where
  pub held : (x : Bool) → a ≡ b → x ≡ t → x ≡ (eqb a b && t)
  held x e h = rw (eq-eqb a b e) h

  pub failed : (a ≡ b → ⊥) → eqb a b ≡ (eqb a b && t)
  failed e = rw (ne_eqb a b e)

-- the same of a signed number, whose bits are tested
module _ (z : ℤ) (t : Bool) where
  pub held_bits : (x : Bool) → SFits w8 z → of_z w8 z ≡ 0 → x ≡ t → x ≡ (eqb (nat_abs z) 0 && t)
  held_bits x f e h = held (nat_abs z) 0 t x (bits_zero z f e) h

  pub failed_bits : (of_z w8 z ≡ 0 → ⊥) → eqb (of_z w8 z) 0 ≡ (eqb (nat_abs z) 0 && t)
  failed_bits e = rw (ne_eqb (of_z w8 z) 0 e, ne_eqb (nat_abs z) 0 (λ h. e (zero_bits z h)))

pub last_bits : (z : ℤ) → SFits w8 z → eqb (of_z w8 z) 0 ≡ eqb (nat_abs z) 0
last_bits (pos n) f = refl
last_bits (negsuc n) f = ne_eqb (of_z w8 (negsuc n)) 0 (λ e. omega (arith, bits_zero (negsuc n) f e)) ∙ sym (ne_eqb (nat_abs (negsuc n)) 0 (λ e. omega arith))

pub ruleset zeros = (held, failed, held_bits, failed_bits, last_bits)
