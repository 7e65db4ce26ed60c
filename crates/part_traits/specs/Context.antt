-- refresh_frame_context, frame_parallel_decoding_mode and frame_context_idx (VP9 6.2).
-- Assumes nothing.
use Rattle.std.specs.Prelude.{ℕ, Bool, true, not}
use Rattle.base_bits.specs.Refusal.{the}
use Rattle.base_shared.specs.Choice.{pick}
use Rattle.base_syntax.specs.Syntax.{flag}
use Rattle.base_syntax.specs.Reader.{Reader, give, field, field_if, ◌>>=◌}
use Rattle.part_traits.specs.declared.Context.{Context}

pub record ContextValues : Type 0 where
  pub refresh_frame_context : ℕ
  pub frame_parallel_decoding_mode : ℕ
  pub frame_context_idx : ℕ

-- an error-resilient frame is decoded in parallel
abbrev pub parallel_of : Bool → ℕ → Bool
parallel_of resilient n = pick resilient true (flag n)

-- reading
unfoldable pub read_context : Bool → Reader ContextValues
read_context resilient = do
  r ← field_if (not resilient) (the "refresh_frame_context") 1
  m ← field_if (not resilient) (the "frame_parallel_decoding_mode") 1
  i ← field (the "frame_context_idx") 2
  give (record { refresh_frame_context = r; frame_parallel_decoding_mode = m; frame_context_idx = i })

-- the code's answer
unfoldable pub context_of : Bool → ContextValues → Context
context_of resilient v =
    record {
      refresh_frame_context = flag v.refresh_frame_context;
      frame_parallel_decoding_mode = parallel_of resilient v.frame_parallel_decoding_mode;
      frame_context_idx = v.frame_context_idx;
    }
