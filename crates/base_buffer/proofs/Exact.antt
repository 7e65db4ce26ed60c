-- Any two results that meet the promise of `to_front` are one.
-- Assumes nothing.
use Prim.Native.Nat.{ℕ}
use mathlib.Core.Path.{◌≡◌, sym, ◌∙◌}
use mathlib.Core.List.{List}
use Rattle.base_buffer.specs.Front.{Moved}

pub one_move : (s : List ℕ) (start end n m : ℕ) (a b : List ℕ) → Moved s start end n a → Moved s start end m b → (n ≡ m) × (a ≡ b)
one_move s start end n m a b h k = (h.counted ∙ sym k.counted, h.bytes ∙ sym k.bytes)
