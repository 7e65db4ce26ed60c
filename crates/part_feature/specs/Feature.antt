-- One feature of one segment in segmentation_params() (VP9 6.2.11).
-- Assumes nothing.
use Rattle.std.specs.Prelude.{ℕ, ◌≡◌, List, Result}
use Rattle.base_bits.specs.declared.Cursor.{Cursor}
use Rattle.base_bits.specs.declared.Refusal.{Refusal}
use Rattle.base_syntax.specs.Reader.{over}
use Rattle.part_feature.specs.declared.Feature.{Feature}
use Rattle.grammar_tables.specs.Tables.{FeatureValues}
use Rattle.grammar_settings.specs.Settings.{enabled_of, data_value}
use Rattle.grammar_tables.specs.Reading.{read_feature}

-- the code's answer
unfoldable pub feature_of : FeatureValues → Feature
feature_of v = record { enabled = enabled_of v; value = data_value v }

-- what `parse_feature` answers for feature j, in whatever segment
abbrev pub FeatureIs : List ℕ → ℕ → ℕ → Result (Feature × Cursor) Refusal → Type 0
FeatureIs s p j r = (i : ℕ) → r ≡ over feature_of (read_feature i j s p)
