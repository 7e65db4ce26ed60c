-- What the kinds of frame have in common: a picture's record.
-- Assumes nothing.
use Rattle.std.specs.Prelude.{ℕ, false}
use Rattle.base_enums.specs.declared.InterpolationFilter.TheVariants.{EightTap}
use Rattle.part_color.specs.declared.Color.{Color}
use Rattle.part_sizes.specs.declared.Sizes.{Sizes}
use Rattle.part_refs.specs.declared.Ref.{Ref}
use Rattle.part_refs.specs.declared.Refs.{Refs}
use Rattle.header_picture.specs.declared.Picture.{Picture}

-- the reference of a frame that reads none
abbrev pub no_ref : Ref
no_ref = record { idx = 0; sign_bias = 0 }

-- no slot is read
abbrev pub none_read : Refs
none_read = record { last = no_ref; golden = no_ref; altref = no_ref }

-- a picture without references: what isn't coded is the default header's
abbrev pub intra_picture : Color → ℕ → Sizes → Picture
intra_picture color refresh sizes =
    record {
      color = color;
      sources = record { refresh_frame_flags = refresh; refs = none_read };
      sizes = sizes;
      motion = record { allow_high_precision_mv = false; interpolation_filter = EightTap };
    }
