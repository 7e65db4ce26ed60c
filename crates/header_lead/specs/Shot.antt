-- The part of uncompressed_header() that differs by kind of frame (VP9 6.2): key, intra_only or inter.
-- Assumes nothing.
use Rattle.std.specs.Prelude.{ℕ, Bool, not, ◌&&◌, List}
use Rattle.base_shared.specs.Choice.{pick}
use Rattle.base_syntax.specs.Syntax.{flag}
use Rattle.base_syntax.specs.Reader.{Reader, give, ◌>>=◌, group_if}
use Rattle.base_size.specs.declared.FrameSize.{FrameSize}
use Rattle.part_traits.specs.Kind.{KindValues, no_kind, read_kind, kind_of}
use Rattle.part_traits.specs.declared.Kind.{Kind}
use Rattle.part_color.specs.declared.Color.{Color}
use Rattle.header_picture.specs.declared.Picture.{Picture}
use Rattle.header_picture.specs.Key.{KeyValues, no_key, read_key, key_of}
use Rattle.header_picture.specs.IntraOnly.{IntraOnlyValues, no_intra_only, read_intra_only, intra_only_of}
use Rattle.header_inter.specs.Inter.{InterValues, no_inter, read_inter, inter_of}
use Rattle.header_lead.specs.declared.Shot.{Shot}

pub record ShotValues : Type 0 where
  pub key : KeyValues
  pub kind : KindValues
  pub intra_only : IntraOnlyValues
  pub inter : InterValues

abbrev pub is_intra_only : ShotValues → Bool
is_intra_only v = flag v.kind.intra_only

-- reading
unfoldable pub read_shot : ℕ → Bool → Bool → Bool → Reader ShotValues
read_shot profile key shown resilient = do
  k ← group_if key no_key (read_key profile)
  d ← group_if (not key) no_kind (read_kind shown resilient)
  i ← group_if (flag d.intra_only) no_intra_only (read_intra_only profile)
  r ← group_if (not key && not (flag d.intra_only)) no_inter read_inter
  give (record { key = k; kind = d; intra_only = i; inter = r })

-- the code's answer, from the remembered colour and sizes
abbrev pub with_kind : Kind → Picture → Shot
with_kind kind picture = record { kind = kind; picture = picture }

unfoldable pub shot_of : ℕ → Bool → Color → List FrameSize → ShotValues → Shot
shot_of profile key color slots v =
    with_kind (kind_of v.kind)
    (pick key (key_of profile v.key) (pick (is_intra_only v) (intra_only_of profile v.intra_only) (inter_of color slots v.inter)))
