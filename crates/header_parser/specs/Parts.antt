-- What the code takes from the state, and the record of a header that only names a slot to show.
-- Assumes nothing.
use Rattle.base_enums.specs.Profile.{profile_of as profileNamed}
use Rattle.base_types.specs.Header.{showing_header}
use Rattle.base_types.specs.declared.header.Header.{Header}
use Rattle.base_types.specs.declared.state.ReaderState.{ReaderState}
use Rattle.part_color.specs.declared.Color.{Color}
use Rattle.part_opening.specs.declared.Opening.{Opening}

-- the code's answer: the colour that is remembered
abbrev pub remembered_color : ReaderState → Color
remembered_color st =
    record {
      bit_depth = st.bit_depth;
      color_space = st.color_space;
      color_range = st.color_range;
      subsampling_x = st.subsampling_x;
      subsampling_y = st.subsampling_y;
    }

-- show-existing, from the opening
unfoldable pub shown_header : Opening → Header
shown_header o = showing_header (profileNamed o.profile) o.frame_to_show_map_idx
