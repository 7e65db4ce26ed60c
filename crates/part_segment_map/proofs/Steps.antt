-- The step of a reading of probabilities, whatever names their fields have.
-- Assumes nothing.
use Prim.Native.Nat.{ℕ}
use Prim.Native.String.{String}
use mathlib.Core.Path.{◌≡◌}
use mathlib.Core.Bool.{Bool}
use mathlib.Core.List.{List}
use Rattle.std.specs.Prelude.{Result}
use Rattle.std.specs.Result.{IsErrAnd, result_from_control_flow}
use Rattle.std.proofs.Common.{Continue, Break}
use Rattle.base_bits.specs.declared.Cursor.{Cursor}
use Rattle.base_bits.specs.declared.Refusal.{Refusal}
use Rattle.base_syntax.specs.Many.{Times, each_of}
use Rattle.base_syntax.specs.Reader.{Read, bind, group_if, over, said}
use Rattle.base_syntax.proofs.Steps.{group_step, group_stop}
use Rattle.grammar_settings.specs.Settings.{prob_of}
use Rattle.grammar_tables.specs.Tables.{ProbValues}
use Rattle.grammar_tables.specs.Reading.{no_probs, read_probs}
use Rattle.part_segment_map.specs.Probs.{ProbsAreIf}

module _ {B D : Type 0} (s : List ℕ) (p : ℕ) (f : B → D) (b : Bool) (x y : String) (n : ℕ) (r : Result (List ℕ × Cursor) Refusal) (k : Times n ProbValues → ℕ → Read B) (e : ProbsAreIf b s p n r) where
  pub probs_stop : {c : _} {z : _} (o : Result (D × Cursor) Refusal) → r ≡ result_from_control_flow c → c ≡ Break z → IsErrAnd o (λ w. w ≡ z.0) → o ≡ over f (bind (group_if b (no_probs n) (read_probs x y n) s p) k)
  probs_stop = group_stop said (each_of prob_of n) (group_if b (no_probs n) (read_probs x y n) s p) f k r (e x y)

  pub probs_step : {c : _} (v : List ℕ × Cursor) (o : Result (D × Cursor) Refusal) → r ≡ result_from_control_flow c → c ≡ Continue v → ((a : Times n ProbValues) → v.0 ≡ each_of prob_of n a → o ≡ over f (k a v.1.at)) → o ≡ over f (bind (group_if b (no_probs n) (read_probs x y n) s p) k)
  probs_step = group_step said (each_of prob_of n) (group_if b (no_probs n) (read_probs x y n) s p) f k r (e x y)
