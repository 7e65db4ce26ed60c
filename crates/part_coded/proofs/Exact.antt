-- Any two answers that meet the promise of `read_delta`, or of `read_prob`, are one.
-- Assumes nothing.
use Prim.Native.Nat.{ℕ}
use mathlib.Core.Path.{◌≡◌, sym, ◌∙◌}
use mathlib.Core.Bool.{Bool, true, false}
use mathlib.Core.List.{List}
use lib.Dec.{leb}
use Rattle.std.specs.Prelude.{Result, Err}
use Rattle.base_bits.specs.declared.BitsError.{BitsError}
use Rattle.base_bits.specs.declared.BitsError.TheVariants.{TooWide}
use Rattle.base_bits.specs.declared.Cursor.{Cursor}
use Rattle.base_bits.specs.declared.Refusal.{Refusal}
use Rattle.base_bits.specs.Refusal.{Name, the}
use Rattle.base_shared.specs.Choice.{pick_t}
use Rattle.part_coded.specs.declared.Delta.{Delta}
use Rattle.part_coded.specs.Delta.{NarrowIs, DeltaIs}
use Rattle.part_coded.specs.Prob.{ProbIs}

-- a name: the promises hold under any
x : Name
x = the ""

pub one_delta : (s : List ℕ) (p n : ℕ) (r q : Result (Delta × Cursor) BitsError) → DeltaIs s p n r → DeltaIs s p n q → r ≡ q
one_delta s p n r q h k = go (leb n 7) h k
  where
    go : (b : Bool) → pick_t b (NarrowIs s p n r) (r ≡ Err TooWide) → pick_t b (NarrowIs s p n q) (q ≡ Err TooWide) → r ≡ q
    go true h k = h x x x ∙ sym (k x x x)
    go false h k = h ∙ sym k

pub one_prob : (s : List ℕ) (p : ℕ) (r q : Result (ℕ × Cursor) Refusal) → ProbIs s p r → ProbIs s p q → r ≡ q
one_prob s p r q h k = h x x ∙ sym (k x x)
