-- The record that the code makes is that of the values.
-- Assumes nothing.
use Prim.Native.Nat.{ℕ, ◌<◌}
use mathlib.Core.Path.{◌≡◌}
use mathlib.Core.Bool.{Bool}
use mathlib.Core.List.{List}
use native.Mathlib.Omega.{arith}
use lib.Dec.{eqb}
use lib.IntN.{ℤ}
use mir.Val.{Fits, to_z, of_z}
use mir.Facts.{to_z-of_z}
use mir.Syntax.{w8, w16}
use Rattle.std.specs.Prelude.{Result, Ok}
use Rattle.std.specs.Result.{result_from_control_flow}
use Rattle.std.proofs.Common.{Continue}
use Rattle.base_bits.specs.declared.Cursor.{Cursor}
use Rattle.base_bits.specs.declared.Refusal.{Refusal}
use Rattle.base_bits.specs.Read.{read_bits_if}
use Rattle.base_syntax.specs.Reader.{over, read}
use Rattle.grammar_settings.specs.Settings.{signed}
use Rattle.part_coded.proofs.Signed.{signed_fits}
use Rattle.part_field.specs.PastEnd.{past_end}
use Rattle.part_feature.specs.declared.Feature.{Feature}
use Rattle.part_feature.specs.Feature.{feature_of}
use Rattle.grammar_tables.specs.Tables.{feature_bits}
use Rattle.part_feature.proofs.Tables.{value_small}

-- a feature, whose value is unsigned before its sign
module _ (b : Bool) (s : List ℕ) (p j n : ℕ) (wide : n ≡ feature_bits j) (r : Result (ℕ × Cursor) Refusal) (e : r ≡ past_end (read_bits_if b s p n)) {d : _} (m : ℕ) (c : Cursor) (t : r ≡ result_from_control_flow d) (u : d ≡ Continue (m, c)) where
  small : m < 256
  small = value_small b s p j n wide r e m c t u

  pub value_fits : Fits w8 m
  value_fits = record { fits = small }

  pub feature_read : (u g : ℕ) (q : Cursor) (z : ℤ) → z ≡ signed m (eqb g 1)
      → ◌≡◌ {A = Result (Feature × Cursor) Refusal} (Ok (record { enabled = eqb u 1; value = to_z w16 (of_z w16 z) }, q)) (over feature_of (read (record { feature_enabled = u; feature_value = m; feature_sign = g }) q.at))
  unfolding feature_of
  feature_read u g q z ez = rw (ez, to_z-of_z (signed_fits w16 m (omega (arith, small)) (eqb g 1)))
