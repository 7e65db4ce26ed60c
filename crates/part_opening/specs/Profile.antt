-- The first fields of uncompressed_header() (VP9 6.2): marker, profile, and profile 3's reserved bit.
-- Assumes nothing.
use Rattle.std.specs.Prelude.{ℕ, ◌+◌, ◌*◌, eqb}
use Rattle.base_bits.specs.Refusal.{the, frame_marker}
use Rattle.base_syntax.specs.Reader.{Reader, give, field, must, field_if, ◌>>=◌}

pub record ProfileValues : Type 0 where
  pub frame_marker : ℕ
  pub profile_low_bit : ℕ
  pub profile_high_bit : ℕ
  pub reserved_zero : ℕ

-- Profile, from its two bits
abbrev pub opening_profile : ProfileValues → ℕ
opening_profile v = v.profile_high_bit * 2 + v.profile_low_bit

-- reading
unfoldable pub read_profile : Reader ProfileValues
read_profile = do
  m ← must (the "frame_marker") 2 2 frame_marker
  l ← field (the "profile_low_bit") 1
  h ← field (the "profile_high_bit") 1
  z ← field_if (eqb (h * 2 + l) 3) (the "reserved_zero") 1
  give (record { frame_marker = m; profile_low_bit = l; profile_high_bit = h; reserved_zero = z })
