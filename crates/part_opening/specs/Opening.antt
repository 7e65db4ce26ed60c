-- uncompressed_header() up to show_existing_frame and the slot that it names (VP9 6.2).
-- Assumes nothing.
use Rattle.std.specs.Prelude.{ℕ}
use Rattle.base_bits.specs.Refusal.{the}
use Rattle.base_syntax.specs.Syntax.{flag}
use Rattle.base_syntax.specs.Reader.{Reader, give, field, field_if, ◌>>=◌}
use Rattle.part_opening.specs.Profile.{ProfileValues, read_profile, opening_profile}
use Rattle.part_opening.specs.declared.Opening.{Opening}

pub record OpeningValues : Type 0 where
  pub profile : ProfileValues
  pub show_existing_frame : ℕ
  pub frame_to_show_map_idx : ℕ

-- reading
unfoldable pub read_opening : Reader OpeningValues
read_opening = do
  p ← read_profile
  x ← field (the "show_existing_frame") 1
  i ← field_if (flag x) (the "frame_to_show_map_idx") 3
  give (record { profile = p; show_existing_frame = x; frame_to_show_map_idx = i })

-- the code's answer
unfoldable pub opening_of : OpeningValues → Opening
opening_of v =
    record {
      profile = opening_profile v.profile;
      show_existing_frame = flag v.show_existing_frame;
      frame_to_show_map_idx = v.frame_to_show_map_idx;
    }
