-- render_size() (VP9 6.2.4): a size of its own, or the frame's.
-- Assumes nothing.
use Rattle.base_syntax.specs.Syntax.{flag}
use Rattle.base_size.specs.declared.FrameSize.{FrameSize}
use Rattle.part_sizes.specs.Size.{size_or}
use Rattle.part_sizes.specs.declared.Render.{Render}
use Rattle.grammar_tables.specs.Tables.{RenderValues}

-- the code's answer: beside a frame's size
unfoldable pub render_of : FrameSize → RenderValues → Render
render_of frame v =
    record {
      different = flag v.render_and_frame_size_different;
      size = size_or (flag v.render_and_frame_size_different) frame v.size;
    }
