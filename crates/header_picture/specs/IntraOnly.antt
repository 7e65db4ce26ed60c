-- The picture of an intra_only frame (VP9 6.2): sync code, colour unless the profile is 0, the slots to refresh, sizes.
-- Assumes nothing.
use Rattle.std.specs.Prelude.{ℕ}
use Rattle.base_bits.specs.Refusal.{the}
use Rattle.base_syntax.specs.Reader.{Reader, give, ◌>>=◌, field}
use Rattle.grammar_tables.specs.Reading.{read_sync, no_color}
use Rattle.grammar_tables.specs.Tables.{ColorValues}
use Rattle.part_color.specs.Intra.{read_intra_color, intra_color_of}
use Rattle.part_sizes.specs.Sizes.{SizesValues, no_sizes, read_sizes, sizes_of}
use Rattle.header_picture.specs.Picture.{intra_picture}
use Rattle.header_picture.specs.declared.Picture.{Picture}

pub record IntraOnlyValues : Type 0 where
  pub frame_sync_code : ℕ
  pub color : ColorValues
  pub refresh_frame_flags : ℕ
  pub sizes : SizesValues

-- reading
abbrev pub no_intra_only : IntraOnlyValues
no_intra_only = record { frame_sync_code = 0; color = no_color; refresh_frame_flags = 0; sizes = no_sizes }

unfoldable pub read_intra_only : ℕ → Reader IntraOnlyValues
read_intra_only profile = do
  n ← read_sync
  c ← read_intra_color profile
  r ← field (the "refresh_frame_flags") 8
  z ← read_sizes
  give (record { frame_sync_code = n; color = c; refresh_frame_flags = r; sizes = z })

-- the code's answer
unfoldable pub intra_only_of : ℕ → IntraOnlyValues → Picture
intra_only_of profile v = intra_picture (intra_color_of profile v.color) v.refresh_frame_flags (sizes_of v.sizes)
