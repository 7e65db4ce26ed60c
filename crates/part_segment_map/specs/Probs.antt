-- Probabilities one after the other in segmentation_params() (VP9 6.2.11).
-- Assumes nothing.
use Rattle.std.specs.Prelude.{ℕ, ◌≡◌, Bool, List, Result}
use Prim.Native.String.{String}
use Rattle.base_bits.specs.declared.Cursor.{Cursor}
use Rattle.base_bits.specs.declared.Refusal.{Refusal}
use Rattle.base_syntax.specs.Reader.{group_if, over}
use Rattle.base_syntax.specs.Many.{each_of}
use Rattle.grammar_settings.specs.Settings.{prob_of}
use Rattle.grammar_tables.specs.Reading.{no_probs, read_probs}

-- what is answered, under whatever names the fields have: for n probabilities, and for those that are there only if b
-- holds
abbrev pub ProbsAre : List ℕ → ℕ → ℕ → Result (List ℕ × Cursor) Refusal → Type 0
ProbsAre s p n r = (x y : String) → r ≡ over (each_of prob_of n) (read_probs x y n s p)

abbrev pub ProbsAreIf : Bool → List ℕ → ℕ → ℕ → Result (List ℕ × Cursor) Refusal → Type 0
ProbsAreIf b s p n r = (x y : String) → r ≡ over (each_of prob_of n) (group_if b (no_probs n) (read_probs x y n) s p)
