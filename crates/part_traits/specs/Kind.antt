-- intra_only and reset_frame_context of a frame that is no key frame (VP9 6.2).
-- Assumes nothing.
use Rattle.std.specs.Prelude.{ℕ, Bool, not}
use Rattle.base_bits.specs.Refusal.{the}
use Rattle.base_syntax.specs.Syntax.{flag}
use Rattle.base_syntax.specs.Reader.{Reader, give, field_if, ◌>>=◌}
use Rattle.part_traits.specs.declared.Kind.{Kind}

pub record KindValues : Type 0 where
  pub intra_only : ℕ
  pub reset_frame_context : ℕ

-- reading
abbrev pub no_kind : KindValues
no_kind = record { intra_only = 0; reset_frame_context = 0 }

unfoldable pub read_kind : Bool → Bool → Reader KindValues
read_kind shown resilient = do
  i ← field_if (not shown) (the "intra_only") 1
  r ← field_if (not resilient) (the "reset_frame_context") 2
  give (record { intra_only = i; reset_frame_context = r })

-- the code's answer
unfoldable pub kind_of : KindValues → Kind
kind_of v = record { intra_only = flag v.intra_only; reset_frame_context = v.reset_frame_context }
