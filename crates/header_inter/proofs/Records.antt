-- The record that the code makes is that of the values.
-- Assumes nothing.
use mathlib.Core.Path.{◌≡◌}
use mathlib.Core.List.{List}
use Rattle.std.specs.Prelude.{Result, Ok}
use Rattle.base_bits.specs.declared.Cursor.{Cursor}
use Rattle.base_bits.specs.declared.Refusal.{Refusal}
use Rattle.base_syntax.specs.Reader.{over, read}
use Rattle.header_picture.specs.declared.Picture.{Picture}
use Rattle.base_size.specs.declared.FrameSize.{FrameSize}
use Rattle.part_color.specs.declared.Color.{Color}
use Rattle.part_sizes.specs.declared.Sizes.{Sizes}
use Rattle.part_size_with_refs.specs.SizeWithRefs.{SizeWithRefsValues, size_with_refs_of}
use Rattle.part_motion.specs.declared.Motion.{Motion}
use Rattle.part_motion.specs.Motion.{MotionValues, motion_of}
use Rattle.part_refs.specs.declared.Sources.{Sources}
use Rattle.part_refs.specs.Sources.{SourcesValues, sources_of}
use Rattle.header_inter.specs.Inter.{inter_of}

pub inter_read : (color : Color) (slots : List FrameSize) (c : Cursor) (x : Sources) (z : Sizes) (m : Motion) (a : SourcesValues) (b : SizeWithRefsValues) (d : MotionValues)
    → x ≡ sources_of a → z ≡ size_with_refs_of slots x.refs b → m ≡ motion_of d
    → ◌≡◌ {A = Result (Picture × Cursor) Refusal} (Ok (record { color = color; sources = x; sizes = z; motion = m }, c)) (over (inter_of color slots) (read (record { sources = a; sizes = b; motion = d }) c.at))
unfolding inter_of sources_of
inter_read color slots c x z m a b d ex ez em = rw (ez, em, ex)
