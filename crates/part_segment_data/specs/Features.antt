-- The features of segmentation_params() (VP9 6.2.11): 8 segments by 4 features.
-- Assumes nothing.
use Rattle.base_syntax.specs.Many.{Times}
use Rattle.grammar_tables.specs.Tables.{FeatureValues}
use Rattle.grammar_settings.specs.Settings.{enabled_of, data_value, feature_row}
use Rattle.part_segment_data.specs.declared.Features.{Features}

abbrev pub FeaturesValues : Type 0
FeaturesValues = Times 8 (Times 4 FeatureValues)

-- the code's answer
unfoldable pub feature_rows : FeaturesValues → Features
feature_rows v = record { enabled = feature_row enabled_of 8 v; values = feature_row data_value 8 v }
