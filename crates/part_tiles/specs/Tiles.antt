-- tile_info() (VP9 6.2.13), for a frame's width.
-- Assumes nothing.
use Rattle.std.specs.Prelude.{ℕ, ◌+◌}
use Rattle.grammar_tables.specs.Tables.{superblocks, least, TilesValues}
use Rattle.part_tiles.specs.declared.Tiles.{Tiles}

-- the code's answer
abbrev pub cols_of : ℕ → ℕ → ℕ
cols_of width k = least (superblocks width) + k

unfoldable pub tiles_of : ℕ → TilesValues → Tiles
tiles_of width v =
    record {
      cols_log2 = cols_of width v.increment_tile_cols_log2;
      rows_log2 = v.tile_rows_log2 + v.increment_tile_rows_log2;
    }
