-- The step of a size's reading, whatever names its two fields have.
-- Assumes nothing.
use Prim.Native.Nat.{ℕ}
use mathlib.Core.Path.{◌≡◌}
use mathlib.Core.Bool.{Bool}
use mathlib.Core.List.{List}
use Rattle.std.specs.Prelude.{Result}
use Rattle.std.specs.Result.{IsErrAnd, result_from_control_flow}
use Rattle.std.proofs.Common.{Continue, Break}
use Rattle.base_bits.specs.declared.Cursor.{Cursor}
use Rattle.base_bits.specs.declared.Refusal.{Refusal}
use Rattle.base_bits.specs.Refusal.{Name}
use Rattle.base_syntax.specs.Reader.{Read, bind, group_if, over, said}
use Rattle.base_syntax.proofs.Steps.{group_step, group_stop}
use Rattle.base_size.specs.declared.FrameSize.{FrameSize}
use Rattle.part_sizes.specs.Size.{size_or, SizeIs, SizeOrIs}
use Rattle.grammar_tables.specs.Tables.{SizeValues}
use Rattle.grammar_tables.specs.Reading.{no_size_values, read_size}
use Rattle.grammar_tables.specs.Header.{size_of}

module _ {B D : Type 0} (s : List ℕ) (p : ℕ) (f : B → D) (r : Result (FrameSize × Cursor) Refusal) (x y : Name) (k : SizeValues → ℕ → Read B) where
  module _ (e : SizeIs s p r) where
    pub size_stop : {b : _} {z : _} (o : Result (D × Cursor) Refusal) → r ≡ result_from_control_flow b → b ≡ Break z → IsErrAnd o (λ w. w ≡ z.0) → o ≡ over f (bind (read_size x y s p) k)
    size_stop = group_stop said size_of (read_size x y s p) f k r (e x y)

    pub size_step : {b : _} (v : FrameSize × Cursor) (o : Result (D × Cursor) Refusal) → r ≡ result_from_control_flow b → b ≡ Continue v → ((a : SizeValues) → v.0 ≡ size_of a → o ≡ over f (k a v.1.at)) → o ≡ over f (bind (read_size x y s p) k)
    size_step = group_step said size_of (read_size x y s p) f k r (e x y)

  module _ (b : Bool) (other : FrameSize) (e : SizeOrIs b other s p r) where
    pub size_or_stop : {c : _} {z : _} (o : Result (D × Cursor) Refusal) → r ≡ result_from_control_flow c → c ≡ Break z → IsErrAnd o (λ w. w ≡ z.0) → o ≡ over f (bind (group_if b no_size_values (read_size x y) s p) k)
    size_or_stop = group_stop said (size_or b other) (group_if b no_size_values (read_size x y) s p) f k r (e x y)

    pub size_or_step : {c : _} (v : FrameSize × Cursor) (o : Result (D × Cursor) Refusal) → r ≡ result_from_control_flow c → c ≡ Continue v → ((a : SizeValues) → v.0 ≡ size_or b other a → o ≡ over f (k a v.1.at)) → o ≡ over f (bind (group_if b no_size_values (read_size x y) s p) k)
    size_or_step = group_step said (size_or b other) (group_if b no_size_values (read_size x y) s p) f k r (e x y)
