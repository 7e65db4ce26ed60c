-- What `parse_lead` learns of a frame's kind and context, as steps along its reading.
-- Assumes nothing.
use Prim.Native.Nat.{ℕ}
use mathlib.Core.Path.{◌≡◌}
use mathlib.Core.List.{List}
use Rattle.std.specs.Prelude.{Result, Ok}
use Rattle.std.specs.Result.{IsErrAnd, result_from_control_flow}
use Rattle.std.proofs.Common.{Continue, Break}
use Rattle.base_bits.specs.declared.Cursor.{Cursor}
use Rattle.base_bits.specs.declared.Refusal.{Refusal}
use Rattle.base_syntax.specs.Reader.{Read, read, bind, over, said}
use Rattle.base_syntax.proofs.Steps.{group_step, group_stop}
use Rattle.base_size.specs.declared.FrameSize.{FrameSize}
use Rattle.part_traits.specs.declared.Traits.{Traits}
use Rattle.part_traits.specs.declared.Context.{Context}
use Rattle.part_traits.specs.Traits.{TraitsValues, traits_of}
use Rattle.part_traits.specs.Context.{ContextValues, read_context, context_of}
use Rattle.part_color.specs.declared.Color.{Color}
use Rattle.header_lead.specs.declared.Shot.{Shot}
use Rattle.header_lead.specs.declared.Lead.{Lead}
use Rattle.header_lead.specs.Shot.{ShotValues, read_shot, shot_of}
use Rattle.header_lead.specs.Lead.{lead_is_key, is_shown, is_resilient, lead_of}

-- of a frame whose traits were read before
module _ {B D : Type 0} (s : List ℕ) (p : ℕ) (f : B → D) (t : Traits) (v : TraitsValues) (tv : t ≡ traits_of v) where
  module _ (profile : ℕ) (color : Color) (slots : List FrameSize) (r : Result (Shot × Cursor) Refusal) (k : ShotValues → ℕ → Read B)
      (e : r ≡ over (shot_of profile t.key color slots) (read_shot profile t.key t.show_frame t.error_resilient_mode s p)) where
    is_shot : r ≡ over (shot_of profile (lead_is_key v) color slots) (read_shot profile (lead_is_key v) (is_shown v) (is_resilient v) s p)
    unfolding traits_of
    is_shot = rw tv at e

    pub shot_step : {b : _} (x : Shot × Cursor) (o : Result (D × Cursor) Refusal) → r ≡ result_from_control_flow b → b ≡ Continue x → ((a : ShotValues) → x.0 ≡ shot_of profile (lead_is_key v) color slots a → o ≡ over f (k a x.1.at))
        → o ≡ over f (bind (read_shot profile (lead_is_key v) (is_shown v) (is_resilient v) s p) k)
    shot_step = group_step said (shot_of profile (lead_is_key v) color slots) (read_shot profile (lead_is_key v) (is_shown v) (is_resilient v) s p) f k r is_shot

    pub shot_stop : {b : _} {z : _} (o : Result (D × Cursor) Refusal) → r ≡ result_from_control_flow b → b ≡ Break z → IsErrAnd o (λ w. w ≡ z.0) → o ≡ over f (bind (read_shot profile (lead_is_key v) (is_shown v) (is_resilient v) s p) k)
    shot_stop = group_stop said (shot_of profile (lead_is_key v) color slots) (read_shot profile (lead_is_key v) (is_shown v) (is_resilient v) s p) f k r is_shot

  module _ (r : Result (Context × Cursor) Refusal) (k : ContextValues → ℕ → Read B) (e : r ≡ over (context_of t.error_resilient_mode) (read_context t.error_resilient_mode s p)) where
    is_context : r ≡ over (context_of (is_resilient v)) (read_context (is_resilient v) s p)
    unfolding traits_of
    is_context = rw tv at e

    pub context_step : {b : _} (x : Context × Cursor) (o : Result (D × Cursor) Refusal) → r ≡ result_from_control_flow b → b ≡ Continue x → ((a : ContextValues) → x.0 ≡ context_of (is_resilient v) a → o ≡ over f (k a x.1.at))
        → o ≡ over f (bind (read_context (is_resilient v) s p) k)
    context_step = group_step said (context_of (is_resilient v)) (read_context (is_resilient v) s p) f k r is_context

    pub context_stop : {b : _} {z : _} (o : Result (D × Cursor) Refusal) → r ≡ result_from_control_flow b → b ≡ Break z → IsErrAnd o (λ w. w ≡ z.0) → o ≡ over f (bind (read_context (is_resilient v) s p) k)
    context_stop = group_stop said (context_of (is_resilient v)) (read_context (is_resilient v) s p) f k r is_context

-- the record that the code makes
pub lead_read : (profile : ℕ) (color : Color) (slots : List FrameSize) (c : Cursor) (t : Traits) (h : Shot) (x : Context) (a : TraitsValues) (b : ShotValues) (d : ContextValues)
    → t ≡ traits_of a → h ≡ shot_of profile (lead_is_key a) color slots b → x ≡ context_of (is_resilient a) d
    → ◌≡◌ {A = Result (Lead × Cursor) Refusal} (Ok (record { traits = t; shot = h; context = x }, c)) (over (lead_of profile color slots) (read (record { traits = a; shot = b; context = d }) c.at))
unfolding lead_of
lead_read profile color slots c t h x a b d et eh ex = rw (et, eh, ex)
