-- The records that the code makes are those of the values.
-- Assumes nothing.
use Prim.Native.Nat.{ℕ}
use mathlib.Core.Path.{◌≡◌, refl}
use mathlib.Core.Bool.{Bool, true, false}
use mathlib.Core.List.{List}
use native.Mathlib.Omega.{arith}
use lib.Dec.{T, eqb, leb, leb→le, le→leb}
use lib.Pow.{pow_mono}
use mir.Val.{Fits}
use mir.Syntax.{w8}
use borrow.Author.Tests.{eq-eqb, ne_eqb}
use Rattle.std.specs.Prelude.{Result, Ok}
use Rattle.std.specs.Result.{result_from_control_flow}
use Rattle.std.proofs.Common.{Continue}
use Rattle.base_bits.specs.declared.Cursor.{Cursor}
use Rattle.base_bits.specs.declared.Refusal.{Refusal}
use Rattle.base_bits.specs.Read.{read_bits}
use Rattle.base_syntax.specs.Syntax.{flag}
use Rattle.base_syntax.specs.Reader.{read, over}
use Rattle.part_field.specs.PastEnd.{past_end}
use Rattle.part_field.proofs.Steps.{value_lt}
use Rattle.base_loop_filter.specs.declared.LoopFilterParams.{LoopFilterParams}
use Rattle.part_loop_deltas.specs.LoopDeltas.{with_flags, loop_deltas_of, deltas_of, LoopDeltasValues, no_loop_deltas}
use Rattle.grammar_settings.specs.Settings.{loop_filter_of}
use Rattle.part_loop_filter.proofs.Parts.{flat_filter}

-- a value of at most 8 bits
pub byte_fits : (s : List ℕ) (p n : ℕ) (r : Result (ℕ × Cursor) Refusal) {b : _} (m : ℕ) (c : Cursor) → r ≡ past_end (read_bits s p n) → r ≡ result_from_control_flow b → b ≡ Continue (m, c) → T (leb n 8) → Fits w8 m
byte_fits s p n r m c e d h l = record { fits = omega (arith, value_lt s p n r m c e d h (le→leb n 31 (omega (arith, leb→le n 8 l))), pow_mono (leb→le n 8 l)) }

-- the settings with the deltas enabled and disabled
module _ (old : LoopFilterParams) (l h e p : ℕ) where
  moved : (d : LoopDeltasValues) (b : Bool) → e ≡ 1 → flag d.delta_update ≡ b → loop_deltas_of (with_flags old l h (eqb e 1) old.delta_update) d ≡ loop_filter_of false old (flat_filter l h e d)
  unfolding loop_filter_of loop_deltas_of deltas_of
  moved d true ee u = rw (eq-eqb e 1 ee, u)
  moved d false ee u = rw (eq-eqb e 1 ee, u)

  pub filter_moved : (d : LoopDeltasValues) → e ≡ 1
      → over (loop_deltas_of (with_flags old l h (eqb e 1) old.delta_update)) (read d p) ≡ over (loop_filter_of false old) (read (flat_filter l h e d) p)
  filter_moved d ee = rw (moved d _ ee refl)

  pub filter_plain : (c : Cursor) → (e ≡ 1 → ⊥)
      → ◌≡◌ {A = Result (LoopFilterParams × Cursor) Refusal} (Ok (with_flags old l h (eqb e 1) old.delta_update, c)) (over (loop_filter_of false old) (read (flat_filter l h e no_loop_deltas) c.at))
  unfolding loop_filter_of
  filter_plain c ne = rw (ne_eqb e 1 ne)
