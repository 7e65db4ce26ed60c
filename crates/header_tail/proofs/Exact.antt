-- Any two answers that meet one of these promises are one.
-- Assumes nothing.
use Prim.Native.Nat.{ℕ}
use mathlib.Core.Path.{◌≡◌, sym, ◌∙◌}
use mathlib.Core.List.{List}
use Rattle.std.specs.Prelude.{Result}
use Rattle.base_bits.specs.declared.Cursor.{Cursor}
use Rattle.base_bits.specs.declared.Refusal.{Refusal}
use Rattle.base_loop_filter.specs.declared.LoopFilterParams.{LoopFilterParams}
use Rattle.base_segmentation.specs.declared.SegmentationParams.{SegmentationParams}
use Rattle.header_tail.specs.declared.Settings.{Settings}
use Rattle.header_tail.specs.declared.Closing.{Closing}
use Rattle.header_tail.specs.Settings.{SettingsAre}

pub one_closing : (r q x : Result (Closing × Cursor) Refusal) → r ≡ x → q ≡ x → r ≡ q
one_closing r q x h k = h ∙ sym k

pub one_settings : (s : List ℕ) (p : ℕ) (lf : LoopFilterParams) (seg : SegmentationParams) (r q : Result (Settings × Cursor) Refusal) → SettingsAre s p lf seg r → SettingsAre s p lf seg q → r ≡ q
one_settings s p lf seg r q h k = h ∙ sym k
