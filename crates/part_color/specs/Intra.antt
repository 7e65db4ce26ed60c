-- The colour of an intra_only frame (VP9 6.2): color_config(), which profile 0 doesn't code.
-- Assumes nothing.
use Rattle.std.specs.Prelude.{ℕ, Bool, true, ltb}
use Rattle.base_shared.specs.Choice.{pick}
use Rattle.base_syntax.specs.Reader.{Reader, group_if}
use Rattle.base_enums.specs.declared.BitDepth.TheVariants.{Depth8}
use Rattle.base_enums.specs.declared.ColorRange.TheVariants.{StudioSwing}
use Rattle.base_enums.specs.declared.ColorSpace.TheVariants.{Bt601}
use Rattle.part_color.specs.Color.{color_of}
use Rattle.grammar_tables.specs.Tables.{ColorValues}
use Rattle.grammar_tables.specs.Reading.{no_color, read_color}
use Rattle.part_color.specs.declared.Color.{Color}

-- profiles over 0 code the colour
abbrev pub intra_colored : ℕ → Bool
intra_colored profile = ltb 0 profile

-- profile 0 has depth 8, colour space 1, range 0 and both subsamplings
abbrev pub fixed_color : Color
fixed_color =
    record {
      bit_depth = Depth8;
      color_space = Bt601;
      color_range = StudioSwing;
      subsampling_x = true;
      subsampling_y = true;
    }

unfoldable pub intra_color_of : ℕ → ColorValues → Color
intra_color_of profile v = pick (intra_colored profile) (color_of profile v) fixed_color

-- reading
unfoldable pub read_intra_color : ℕ → Reader ColorValues
read_intra_color profile = group_if (intra_colored profile) no_color (read_color profile)
