-- color_config() (VP9 6.2.2), for a profile.
-- Assumes nothing.
use Rattle.std.specs.Prelude.{ℕ}
use Rattle.base_enums.specs.ColorSpace.{color_space_of}
use Rattle.grammar_settings.specs.Enums.{depth_of, range_of, subsampling}
use Rattle.part_color.specs.declared.Color.{Color}
use Rattle.grammar_tables.specs.Tables.{ColorValues}

-- the code's colour
unfoldable pub color_of : ℕ → ColorValues → Color
color_of profile v =
    record {
      bit_depth = depth_of profile v.ten_or_twelve_bit;
      color_space = color_space_of v.color_space;
      color_range = range_of v.color_space v.color_range;
      subsampling_x = subsampling profile v.color_space v.subsampling_x;
      subsampling_y = subsampling profile v.color_space v.subsampling_y;
    }
