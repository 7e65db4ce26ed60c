-- frame_type, show_frame and error_resilient_mode (VP9 6.2).
-- Assumes nothing.
use Rattle.std.specs.Prelude.{ℕ, eqb}
use Rattle.base_bits.specs.Refusal.{the}
use Rattle.base_syntax.specs.Syntax.{flag}
use Rattle.base_syntax.specs.Reader.{Reader, give, field, ◌>>=◌}
use Rattle.part_traits.specs.declared.Traits.{Traits}

pub record TraitsValues : Type 0 where
  pub frame_type : ℕ
  pub show_frame : ℕ
  pub error_resilient_mode : ℕ

-- reading
unfoldable pub read_traits : Reader TraitsValues
read_traits = do
  t ← field (the "frame_type") 1
  w ← field (the "show_frame") 1
  e ← field (the "error_resilient_mode") 1
  give (record { frame_type = t; show_frame = w; error_resilient_mode = e })

-- the code's answer: a key frame has type 0
unfoldable pub traits_of : TraitsValues → Traits
traits_of v =
    record {
      key = eqb v.frame_type 0;
      show_frame = flag v.show_frame;
      error_resilient_mode = flag v.error_resilient_mode;
    }
