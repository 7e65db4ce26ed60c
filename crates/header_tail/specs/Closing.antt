-- The end of uncompressed_header() (VP9 6.2): tiles, and the size of the compressed header.
-- Assumes nothing.
use Rattle.std.specs.Prelude.{ℕ}
use Rattle.base_bits.specs.Refusal.{the}
use Rattle.base_syntax.specs.Reader.{Reader, give, ◌>>=◌, field}
use Rattle.part_tiles.specs.Tiles.{tiles_of}
use Rattle.grammar_tables.specs.Tables.{TilesValues}
use Rattle.grammar_tables.specs.Reading.{read_tiles}
use Rattle.header_tail.specs.declared.Closing.{Closing}

pub record ClosingValues : Type 0 where
  pub tiles : TilesValues
  pub header_size_in_bytes : ℕ

-- reading

unfoldable pub read_closing : ℕ → Reader ClosingValues
read_closing width = do
  t ← read_tiles width
  n ← field (the "header_size_in_bytes") 16
  give (record { tiles = t; header_size_in_bytes = n })

-- the code's answer
unfoldable pub closing_of : ℕ → ClosingValues → Closing
closing_of width v = record { tiles = tiles_of width v.tiles; header_size_in_bytes = v.header_size_in_bytes }
