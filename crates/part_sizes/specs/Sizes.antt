-- frame_size() and render_size(), as key frames and intra_only frames have them (VP9 6.2).
-- Assumes nothing.
use Rattle.base_syntax.specs.Reader.{Reader, give, ◌>>=◌}
use Rattle.base_size.specs.declared.FrameSize.{FrameSize}
use Rattle.grammar_tables.specs.Tables.{SizeValues, RenderValues}
use Rattle.grammar_tables.specs.Reading.{no_size_values, read_frame_size, no_render, read_render}
use Rattle.grammar_tables.specs.Header.{size_of}
use Rattle.part_sizes.specs.Render.{render_of}
use Rattle.part_sizes.specs.declared.Sizes.{Sizes}

pub record SizesValues : Type 0 where
  pub size : SizeValues
  pub render : RenderValues

-- reading
abbrev pub no_sizes : SizesValues
no_sizes = record { size = no_size_values; render = no_render }

unfoldable pub read_sizes : Reader SizesValues
read_sizes = do
  z ← read_frame_size
  r ← read_render
  give (record { size = z; render = r })

-- the code's answer: a frame's size, and the render size beside it
unfoldable pub with_render : FrameSize → RenderValues → Sizes
with_render frame v = record { frame = frame; render = render_of frame v }

unfoldable pub sizes_of : SizesValues → Sizes
sizes_of v = with_render (size_of v.size) v.render
