-- frame_sync_code() (VP9 6.2.1): one field.
-- Assumes nothing.
use Rattle.std.specs.Prelude.{ℕ}

-- the code's answer: nothing is left of it in the record
abbrev pub sync_of : ℕ → Unit {0}
sync_of n = tt
