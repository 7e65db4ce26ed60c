-- The records that the code makes are those of the values.
-- Assumes nothing.
use Prim.Native.Nat.{ℕ}
use mathlib.Core.Path.{◌≡◌}
use mathlib.Core.Bool.{false}
use mathlib.Core.List.{List}
use mir.Val.{Fits}
use mir.Syntax.{w16}
use Rattle.std.specs.Prelude.{Result, Ok}
use Rattle.std.specs.Result.{result_from_control_flow}
use Rattle.std.proofs.Common.{Continue}
use Rattle.base_bits.specs.declared.Cursor.{Cursor}
use Rattle.base_bits.specs.declared.Refusal.{Refusal}
use Rattle.base_bits.specs.Read.{read_bits}
use Rattle.base_syntax.specs.Reader.{read, over}
use Rattle.part_field.specs.PastEnd.{past_end}
use Rattle.part_field.proofs.Steps.{value_lt}
use Rattle.base_loop_filter.specs.declared.LoopFilterParams.{LoopFilterParams}
use Rattle.base_quantization.specs.declared.QuantizationParams.{QuantizationParams}
use Rattle.base_segmentation.specs.declared.SegmentationParams.{SegmentationParams}
use Rattle.grammar_tables.specs.Tables.{LoopFilterValues, QuantizerValues, SegmentationValues, TilesValues}
use Rattle.grammar_settings.specs.Settings.{loop_filter_of, quantizer_of, segmentation_of}
use Rattle.part_tiles.specs.declared.Tiles.{Tiles}
use Rattle.part_tiles.specs.Tiles.{tiles_of}
use Rattle.header_tail.specs.declared.Settings.{Settings}
use Rattle.header_tail.specs.declared.Closing.{Closing}
use Rattle.header_tail.specs.Settings.{settings_over}
use Rattle.header_tail.specs.Closing.{closing_of}

-- the new settings, from those that the frame starts from
pub settings_read : (lf lf₀ : LoopFilterParams) (seg seg₀ : SegmentationParams) (c : Cursor) (x : LoopFilterParams) (y : QuantizationParams) (z : SegmentationParams) (a : LoopFilterValues) (b : QuantizerValues) (d : SegmentationValues)
    → lf ≡ lf₀ → seg ≡ seg₀ → x ≡ loop_filter_of false lf a → y ≡ quantizer_of b → z ≡ segmentation_of false seg d
    → ◌≡◌ {A = Result (Settings × Cursor) Refusal} (Ok (record { lf = x; quant = y; seg = z }, c)) (over (settings_over lf₀ seg₀) (read (record { loop_filter = a; quantizer = b; segmentation = d }) c.at))
unfolding settings_over
settings_read lf lf₀ seg seg₀ c x y z a b d el es ex ey ez = rw (ex, ey, ez, el, es)

pub bytes_fit : (s : List ℕ) (p : ℕ) (r : Result (ℕ × Cursor) Refusal) {b : _} (n : ℕ) (c : Cursor) → r ≡ past_end (read_bits s p 16) → r ≡ result_from_control_flow b → b ≡ Continue (n, c) → Fits w16 n
bytes_fit s p r n c e d h = record { fits = value_lt s p 16 r n c e d h tt }

pub closing_read : (width n : ℕ) (c : Cursor) (t : Tiles) (a : TilesValues) → t ≡ tiles_of width a
    → ◌≡◌ {A = Result (Closing × Cursor) Refusal} (Ok (record { tiles = t; header_size_in_bytes = n }, c)) (over (closing_of width) (read (record { tiles = a; header_size_in_bytes = n }) c.at))
unfolding closing_of
closing_read width n c t a e = rw e
