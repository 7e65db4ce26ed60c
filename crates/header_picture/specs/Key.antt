-- The picture of a key frame (VP9 6.2): sync code, colour, sizes. It refreshes every slot.
-- Assumes nothing.
use Rattle.std.specs.Prelude.{ℕ}
use Rattle.base_syntax.specs.Reader.{Reader, give, ◌>>=◌}
use Rattle.grammar_tables.specs.Reading.{read_sync, no_color, read_color}
use Rattle.part_color.specs.Color.{color_of}
use Rattle.grammar_tables.specs.Tables.{ColorValues}
use Rattle.part_sizes.specs.Sizes.{SizesValues, no_sizes, read_sizes, sizes_of}
use Rattle.header_picture.specs.Picture.{intra_picture}
use Rattle.header_picture.specs.declared.Picture.{Picture}

pub record KeyValues : Type 0 where
  pub frame_sync_code : ℕ
  pub color : ColorValues
  pub sizes : SizesValues

-- reading
abbrev pub no_key : KeyValues
no_key = record { frame_sync_code = 0; color = no_color; sizes = no_sizes }

unfoldable pub read_key : ℕ → Reader KeyValues
read_key profile = do
  n ← read_sync
  c ← read_color profile
  z ← read_sizes
  give (record { frame_sync_code = n; color = c; sizes = z })

-- the code's answer
unfoldable pub key_of : ℕ → KeyValues → Picture
key_of profile v = intra_picture (color_of profile v.color) 255 (sizes_of v.sizes)
