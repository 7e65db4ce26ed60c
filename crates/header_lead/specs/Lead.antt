-- uncompressed_header() from frame_type to frame_context_idx (VP9 6.2).
-- Assumes nothing.
use Rattle.std.specs.Prelude.{ℕ, Bool, ◌||◌, List, eqb}
use Rattle.base_syntax.specs.Syntax.{flag}
use Rattle.base_syntax.specs.Reader.{Reader, give, ◌>>=◌}
use Rattle.base_size.specs.declared.FrameSize.{FrameSize}
use Rattle.part_traits.specs.Traits.{TraitsValues, read_traits, traits_of}
use Rattle.part_traits.specs.Context.{ContextValues, read_context, context_of}
use Rattle.part_color.specs.declared.Color.{Color}
use Rattle.header_lead.specs.Shot.{ShotValues, is_intra_only, read_shot, shot_of}
use Rattle.header_lead.specs.declared.Lead.{Lead}

pub record LeadValues : Type 0 where
  pub traits : TraitsValues
  pub shot : ShotValues
  pub context : ContextValues

-- a key frame has type 0
abbrev pub lead_is_key : TraitsValues → Bool
lead_is_key t = eqb t.frame_type 0

abbrev pub is_shown : TraitsValues → Bool
is_shown t = flag t.show_frame

abbrev pub is_resilient : TraitsValues → Bool
is_resilient t = flag t.error_resilient_mode

-- an intra or error-resilient frame owes nothing to earlier ones: setup_past_independence()
abbrev pub lead_is_independent : LeadValues → Bool
lead_is_independent v = lead_is_key v.traits || (is_intra_only v.shot || is_resilient v.traits)

-- reading
unfoldable pub read_lead : ℕ → Reader LeadValues
read_lead profile = do
  t ← read_traits
  h ← read_shot profile (lead_is_key t) (is_shown t) (is_resilient t)
  x ← read_context (is_resilient t)
  give (record { traits = t; shot = h; context = x })

-- the code's answer, from the remembered colour and sizes
unfoldable pub lead_of : ℕ → Color → List FrameSize → LeadValues → Lead
lead_of profile color slots v =
    record {
      traits = traits_of v.traits;
      shot = shot_of profile (lead_is_key v.traits) color slots v.shot;
      context = context_of (is_resilient v.traits) v.context;
    }
