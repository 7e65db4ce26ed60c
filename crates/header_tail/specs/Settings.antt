-- The settings of filter, quantizer and segmentation (VP9 6.2).
-- Assumes nothing.
use Rattle.std.specs.Prelude.{ℕ, ◌≡◌, Bool, false, List, Result}
use Rattle.base_shared.specs.Choice.{pick}
use Rattle.base_syntax.specs.Reader.{Reader, give, ◌>>=◌, over}
use Rattle.base_bits.specs.declared.Cursor.{Cursor}
use Rattle.base_bits.specs.declared.Refusal.{Refusal}
use Rattle.base_loop_filter.specs.LoopFilterParams.{reset_filter}
use Rattle.base_segmentation.specs.SegmentationParams.{reset_segmentation}
use Rattle.base_loop_filter.specs.declared.LoopFilterParams.{LoopFilterParams}
use Rattle.base_segmentation.specs.declared.SegmentationParams.{SegmentationParams}
use Rattle.grammar_tables.specs.Tables.{LoopFilterValues, QuantizerValues, SegmentationValues}
use Rattle.grammar_tables.specs.Reading.{read_loop_filter, read_quantizer, read_segmentation}
use Rattle.grammar_settings.specs.Settings.{loop_filter_of, quantizer_of, segmentation_of}
use Rattle.header_tail.specs.declared.Settings.{Settings}

pub record SettingsValues : Type 0 where
  pub loop_filter : LoopFilterValues
  pub quantizer : QuantizerValues
  pub segmentation : SegmentationValues

-- what an independent frame starts from, and any other: setup_past_independence()
abbrev pub starting_filter : Bool → LoopFilterParams → LoopFilterParams
starting_filter independent lf = pick independent (reset_filter lf) lf

abbrev pub starting_segmentation : Bool → SegmentationParams → SegmentationParams
starting_segmentation independent seg = pick independent (reset_segmentation seg) seg

-- reading

unfoldable pub read_settings : Reader SettingsValues
read_settings = do
  l ← read_loop_filter
  q ← read_quantizer
  g ← read_segmentation
  give (record { loop_filter = l; quantizer = q; segmentation = g })

-- the code's answer: from the settings that a frame starts from
unfoldable pub settings_over : LoopFilterParams → SegmentationParams → SettingsValues → Settings
settings_over lf seg v =
    record {
      lf = loop_filter_of false lf v.loop_filter;
      quant = quantizer_of v.quantizer;
      seg = segmentation_of false seg v.segmentation;
    }

-- and from the remembered ones
abbrev pub settings_of : Bool → LoopFilterParams → SegmentationParams → SettingsValues → Settings
settings_of independent lf seg = settings_over (starting_filter independent lf) (starting_segmentation independent seg)

-- what is answered, from the settings that a frame starts from
abbrev pub SettingsAre : List ℕ → ℕ → LoopFilterParams → SegmentationParams → Result (Settings × Cursor) Refusal → Type 0
SettingsAre s p lf seg r = r ≡ over (settings_over lf seg) (read_settings s p)
