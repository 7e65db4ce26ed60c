-- allow_high_precision_mv and the interpolation filter of an inter frame (VP9 6.2).
-- Assumes nothing.
use Rattle.std.specs.Prelude.{ℕ}
use Rattle.base_bits.specs.Refusal.{the}
use Rattle.base_syntax.specs.Syntax.{flag}
use Rattle.base_syntax.specs.Reader.{Reader, give, field, ◌>>=◌}
use Rattle.part_motion.specs.Filter.{FilterValues, no_filter, read_filter, filter_of}
use Rattle.part_motion.specs.declared.Motion.{Motion}

pub record MotionValues : Type 0 where
  pub allow_high_precision_mv : ℕ
  pub filter : FilterValues

-- reading
abbrev pub no_motion : MotionValues
no_motion = record { allow_high_precision_mv = 0; filter = no_filter }

unfoldable pub read_motion : Reader MotionValues
read_motion = do
  h ← field (the "allow_high_precision_mv") 1
  f ← read_filter
  give (record { allow_high_precision_mv = h; filter = f })

-- the code's answer
unfoldable pub motion_of : MotionValues → Motion
motion_of v = record { allow_high_precision_mv = flag v.allow_high_precision_mv; interpolation_filter = filter_of v.filter }
