-- Any two answers that meet the promise of a public function are one.
-- Assumes nothing.
use Prim.Native.Nat.{ℕ}
use mathlib.Core.Path.{◌≡◌, sym, ◌∙◌}
use mathlib.Core.List.{List}
use Rattle.std.specs.Prelude.{Result}
use Rattle.base_bits.specs.declared.Cursor.{Cursor}
use Rattle.base_bits.specs.declared.Refusal.{Refusal}
use Rattle.base_syntax.specs.Reader.{over}
use Rattle.base_quantization.specs.declared.QuantizationParams.{QuantizationParams}
use Rattle.grammar_tables.specs.Reading.{read_quantizer}
use Rattle.grammar_settings.specs.Settings.{quantizer_of}

pub one_quantizer : (s : List ℕ) (p : ℕ) (r q : Result (QuantizationParams × Cursor) Refusal) → r ≡ over quantizer_of (read_quantizer s p) → q ≡ over quantizer_of (read_quantizer s p) → r ≡ q
one_quantizer s p r q h k = h ∙ sym k
