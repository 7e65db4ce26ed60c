-- The state after a frame, from its parts and the state before.
-- Assumes nothing.
use Rattle.std.specs.Prelude.{ℕ, Bool, ◌&&◌, eqb}
use Rattle.base_shared.specs.Choice.{pick}
use Rattle.base_enums.specs.declared.ColorRange.{ColorRange}
use Rattle.base_types.specs.declared.state.ReaderState.{ReaderState}
use Rattle.base_slots.specs.Slots.{refreshed}
use Rattle.header_lead.specs.declared.Lead.{Lead}
use Rattle.header_tail.specs.declared.Settings.{Settings}

-- the code's answer: an intra_only frame of profile 0 leaves the remembered range untouched
abbrev pub keeps_range : ℕ → Lead → Bool
keeps_range profile l = eqb profile 0 && l.shot.kind.intra_only

abbrev pub range_after : ReaderState → ℕ → Lead → ColorRange
range_after st profile l = pick (keeps_range profile l) st.color_range l.shot.picture.color.color_range

unfoldable pub frame_state : ReaderState → ℕ → Lead → Settings → ReaderState
frame_state st profile l g =
    record {
      bit_depth = l.shot.picture.color.bit_depth;
      subsampling_x = l.shot.picture.color.subsampling_x;
      subsampling_y = l.shot.picture.color.subsampling_y;
      color_space = l.shot.picture.color.color_space;
      color_range = range_after st profile l;
      lf = g.lf;
      seg = g.seg;
      reference_frame_sz = refreshed l.shot.picture.sources.refresh_frame_flags l.shot.picture.sizes.frame st.reference_frame_sz;
    }
