-- The records that the code makes are those of the values.
-- Assumes nothing.
use Prim.Native.Nat.{ℕ}
use mathlib.Core.Path.{◌≡◌}
use mathlib.Core.List.{List}
use mir.Val.{Fits}
use mir.Syntax.{w8}
use Rattle.std.specs.Prelude.{Result, Ok}
use Rattle.std.specs.Result.{result_from_control_flow}
use Rattle.std.proofs.Common.{Continue}
use Rattle.base_bits.specs.declared.Refusal.{Refusal}
use Rattle.base_bits.specs.declared.Cursor.{Cursor}
use Rattle.base_bits.specs.Read.{read_bits}
use Rattle.base_syntax.specs.Reader.{over, read}
use Rattle.part_field.specs.PastEnd.{past_end}
use Rattle.part_field.proofs.Steps.{value_lt}
use Rattle.part_color.specs.declared.Color.{Color}
use Rattle.part_color.specs.Color.{color_of}
use Rattle.grammar_tables.specs.Tables.{ColorValues}
use Rattle.part_color.specs.Intra.{intra_color_of}
use Rattle.part_sizes.specs.declared.Sizes.{Sizes}
use Rattle.part_sizes.specs.Sizes.{SizesValues, sizes_of}
use Rattle.header_picture.specs.declared.Picture.{Picture}
use Rattle.header_picture.specs.Picture.{intra_picture}
use Rattle.header_picture.specs.Key.{key_of}
use Rattle.header_picture.specs.IntraOnly.{intra_only_of}

pub refresh_fits : (s : List ℕ) (p : ℕ) (r : Result (ℕ × Cursor) Refusal) {b : _} (n : ℕ) (c : Cursor) → r ≡ past_end (read_bits s p 8) → r ≡ result_from_control_flow b → b ≡ Continue (n, c) → Fits w8 n
refresh_fits s p r n c e t i = record { fits = value_lt s p 8 r n c e t i tt }

module _ (profile n : ℕ) (p : Cursor) (x : Picture) (c : Color) (z : Sizes) (a : ColorValues) (b : SizesValues) where
  pub key_read : c ≡ color_of profile a → z ≡ sizes_of b → x ≡ intra_picture c 255 z
      → ◌≡◌ {A = Result (Picture × Cursor) Refusal} (Ok (x, p)) (over (key_of profile) (read (record { frame_sync_code = n; color = a; sizes = b }) p.at))
  unfolding key_of
  key_read ec ez ex = rw (ex, ec, ez)

  pub intra_only_read : (r : ℕ) → c ≡ intra_color_of profile a → z ≡ sizes_of b → x ≡ intra_picture c r z
      → ◌≡◌ {A = Result (Picture × Cursor) Refusal} (Ok (x, p)) (over (intra_only_of profile) (read (record { frame_sync_code = n; color = a; refresh_frame_flags = r; sizes = b }) p.at))
  unfolding intra_only_of
  intra_only_read r ec ez ex = rw (ex, ec, ez)
