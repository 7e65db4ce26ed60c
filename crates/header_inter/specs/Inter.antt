-- The picture of an inter frame (VP9 6.2): the slots that it writes and reads, sizes, motion.
-- Assumes nothing.
use Rattle.std.specs.Prelude.{List}
use Rattle.base_syntax.specs.Reader.{Reader, give, ◌>>=◌}
use Rattle.base_size.specs.declared.FrameSize.{FrameSize}
use Rattle.part_color.specs.declared.Color.{Color}
use Rattle.part_refs.specs.Refs.{refs_of}
use Rattle.part_size_with_refs.specs.SizeWithRefs.{SizeWithRefsValues, no_size_with_refs, read_size_with_refs, size_with_refs_of}
use Rattle.part_refs.specs.Sources.{SourcesValues, no_sources, read_sources, sources_of}
use Rattle.part_motion.specs.Motion.{MotionValues, no_motion, read_motion, motion_of}
use Rattle.header_picture.specs.declared.Picture.{Picture}

pub record InterValues : Type 0 where
  pub sources : SourcesValues
  pub sizes : SizeWithRefsValues
  pub motion : MotionValues

-- reading
abbrev pub no_inter : InterValues
no_inter = record { sources = no_sources; sizes = no_size_with_refs; motion = no_motion }

unfoldable pub read_inter : Reader InterValues
read_inter = do
  x ← read_sources
  z ← read_size_with_refs
  m ← read_motion
  give (record { sources = x; sizes = z; motion = m })

-- the code's answer, from the remembered colour and sizes
unfoldable pub inter_of : Color → List FrameSize → InterValues → Picture
inter_of color slots v =
    record {
      color = color;
      sources = sources_of v.sources;
      sizes = size_with_refs_of slots (refs_of v.sources.refs) v.sizes;
      motion = motion_of v.motion;
    }
