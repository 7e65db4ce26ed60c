-- The records that the code makes are those of the values.
-- Assumes nothing.
use Prim.Native.Nat.{ℕ}
use mathlib.Core.Path.{◌≡◌}
use lib.Dec.{eqb}
use lib.IntN.{ℤ}
use mathlib.Core.Bool.{true, false}
use mathlib.Core.List.{List}
use mir.Val.{SFits, to_z, of_z}
use mir.Facts.{to_z-of_z}
use mir.Syntax.{w8}
use borrow.Author.Tests.{eq-eqb, ne_eqb}
use Rattle.std.specs.Prelude.{Result, Ok}
use Rattle.base_bits.specs.declared.Cursor.{Cursor}
use Rattle.base_bits.specs.declared.Refusal.{Refusal}
use Rattle.base_syntax.specs.Reader.{read, over}
use Rattle.base_syntax.specs.Many.{Times}
use Rattle.part_coded.specs.declared.Delta.{Delta}
use Rattle.grammar_tables.specs.Tables.{DeltaValues}
use Rattle.grammar_tables.specs.Reading.{no_ref_deltas, no_mode_deltas, read_ref_deltas, read_mode_deltas}
use Rattle.base_loop_filter.specs.declared.LoopFilterParams.{LoopFilterParams}
use Rattle.part_loop_deltas.specs.declared.Deltas.{Deltas}
use Rattle.part_loop_deltas.specs.LoopDeltas.{delta_moved, deltas_of, DeltasAre, with_flags, with_deltas, loop_deltas_of}

-- the deltas of the references and of the modes, under the table's names
module _ (s : List ℕ) (p : ℕ) (old : List ℤ) where
  pub refs_read : (r : Result (Deltas 4 × Cursor) Refusal) → DeltasAre s p 4 old r → r ≡ over (deltas_of 4 old) (read_ref_deltas s p)
  unfolding read_ref_deltas
  refs_read r e = e "update_ref_delta" "loop_filter_ref_deltas" "loop_filter_ref_deltas_sign"

  pub modes_read : (r : Result (Deltas 2 × Cursor) Refusal) → DeltasAre s p 2 old r → r ≡ over (deltas_of 2 old) (read_mode_deltas s p)
  unfolding read_mode_deltas
  modes_read r e = e "update_mode_delta" "loop_filter_mode_deltas" "loop_filter_mode_deltas_sign"

-- a delta in a row of them
module _ (d : Delta) (old : ℤ) where
  pub moved_coded : d.coded ≡ true → SFits w8 d.value → to_z w8 (of_z w8 d.value) ≡ delta_moved d old
  unfolding delta_moved
  moved_coded e f = rw (e, to_z-of_z f)

  pub moved_kept : d.coded ≡ false → SFits w8 old → to_z w8 (of_z w8 old) ≡ delta_moved d old
  unfolding delta_moved
  moved_kept e f = rw (e, to_z-of_z f)

-- the settings with and without an update of the deltas
module _ (old : LoopFilterParams) (u : ℕ) (c : Cursor) where
  pub deltas_moved : (r : Deltas 4) (m : Deltas 2) (rv : Times 4 DeltaValues) (mv : Times 2 DeltaValues) → u ≡ 1 → r ≡ deltas_of 4 old.ref_deltas rv → m ≡ deltas_of 2 old.mode_deltas mv
      → ◌≡◌ {A = Result (LoopFilterParams × Cursor) Refusal} (Ok (with_deltas old (eqb u 1) r m, c)) (over (loop_deltas_of old) (read (record { delta_update = u; ref_deltas = rv; mode_deltas = mv }) c.at))
  unfolding loop_deltas_of
  deltas_moved r m rv mv eu er em = rw (eq-eqb u 1 eu, er, em)

  pub deltas_kept : (u ≡ 1 → ⊥)
      → ◌≡◌ {A = Result (LoopFilterParams × Cursor) Refusal} (Ok (with_flags old old.level old.sharpness old.delta_enabled (eqb u 1), c)) (over (loop_deltas_of old) (read (record { delta_update = u; ref_deltas = no_ref_deltas; mode_deltas = no_mode_deltas }) c.at))
  unfolding loop_deltas_of
  deltas_kept e = rw (ne_eqb u 1 e)
