-- The rows, by computation.
-- Assumes nothing.
use mathlib.Core.Path.{refl}
use Rattle.base_shared.specs.Lists as Lists
use Rattle.segment_tables.specs.Lists as Scales
use Rattle.segment_tables.specs.Tables as Tables
use Rattle.segment_clamp.specs.Clamp as Clamp
use Rattle.segment_quant.specs.Quant as Quant
use Rattle.segment_grid.specs.Grid as Grid
use Rattle.segment_levels.specs.Levels as Levels
use Rattle.segment_features.specs.Features as Features
use Rattle.segment_records.specs.Entries as Entries
use Rattle.segment_records.specs.Segmentation as Segmentation
use Rattle.test_segment_rows.specs.Settings as Settings
use Rattle.test_segment_rows.specs.Table.{segment_rows, RowsHold}

pub rows_hold : RowsHold segment_rows
unfolding
    Lists.each Scales.dc_qlookup8 Scales.dc_qlookup10 Scales.dc_qlookup12 Scales.ac_qlookup8 Scales.ac_qlookup10
    Scales.ac_qlookup12 Tables.dc_row Tables.ac_row Tables.dc_table Tables.ac_table Clamp.clamp_to Quant.qindex_of
    Quant.scale_at Quant.scales_at Grid.grid_of Grid.row_of Levels.level_moved Levels.scaled Levels.segment_level
    Levels.pair_of Levels.delta_grid Levels.levels_at Levels.levels_of Features.features_of
    Entries.index Entries.entries_with Entries.entries_of Segmentation.segment_with Segmentation.segment_of
    Settings.row_by
rows_hold = (refl, (refl, (refl, (refl, tt))))
