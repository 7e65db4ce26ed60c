-- The records that the code makes are those of the values.
-- Assumes nothing.
use Prim.Native.Nat.{ℕ, ◌≤◌}
use mathlib.Core.Path.{◌≡◌}
use mathlib.Core.List.{List}
use native.Mathlib.Omega.{arith}
use lib.Dec.{T, leb, leb→le, le→leb}
use lib.Pow.{pow_mono}
use mir.Val.{Fits}
use mir.Syntax.{w8}
use Rattle.std.specs.Prelude.{Result, Ok}
use Rattle.std.specs.Result.{result_from_control_flow}
use Rattle.std.proofs.Common.{Continue}
use Rattle.base_bits.specs.declared.Cursor.{Cursor}
use Rattle.base_bits.specs.declared.Refusal.{Refusal}
use Rattle.base_bits.specs.Read.{read_bits}
use Rattle.base_syntax.specs.Reader.{over, read}
use Rattle.part_field.specs.PastEnd.{past_end}
use Rattle.part_field.proofs.Steps.{value_lt}
use Rattle.part_refs.specs.declared.Ref.{Ref}
use Rattle.part_refs.specs.Refs.{ref_of, refs_of}
use Rattle.grammar_tables.specs.Tables.{RefValues, RefsValues}
use Rattle.part_refs.specs.declared.Refs.{Refs}
use Rattle.part_refs.specs.declared.Sources.{Sources}
use Rattle.part_refs.specs.Sources.{sources_of}

-- a number of at most 8 bits fits a byte
pub byte_fits : (s : List ℕ) (p n : ℕ) (r : Result (ℕ × Cursor) Refusal) {b : _} (v : ℕ) (c : Cursor) → r ≡ past_end (read_bits s p n) → r ≡ result_from_control_flow b → b ≡ Continue (v, c) → T (leb n 8) → Fits w8 v
byte_fits s p n r v c e d h t =
    let l : n ≤ 8 = leb→le n 8 t in
    record { fits = omega (arith, value_lt s p n r v c e d h (le→leb n 31 (omega arith)), pow_mono l) }

pub refs_read : (l g t : Ref) (x y z : RefValues) (c : Cursor) → l ≡ ref_of x → g ≡ ref_of y → t ≡ ref_of z
    → ◌≡◌ {A = Result (Refs × Cursor) Refusal} (Ok (record { last = l; golden = g; altref = t }, c)) (over refs_of (read (record { last = x; golden = y; altref = z }) c.at))
unfolding refs_of
refs_read l g t x y z c el eg et = rw (el, eg, et)

pub sources_read : (n : ℕ) (c : Cursor) (x : Refs) (a : RefsValues) → x ≡ refs_of a
    → ◌≡◌ {A = Result (Sources × Cursor) Refusal} (Ok (record { refresh_frame_flags = n; refs = x }, c)) (over sources_of (read (record { refresh_frame_flags = n; refs = a }) c.at))
unfolding sources_of
sources_read n c x a e = rw e
