-- Any two answers of `choose_picture` that meet its promise are one: the same bytes at the same place.
-- Assumes nothing.
use Prim.Native.Nat.{ℕ}
use mathlib.Core.Path.{◌≡◌, sym, ◌∙◌}
use mathlib.Core.Bool.{Bool}
use mathlib.Core.List.{List}
use denote.Ref.{Bor}
use Rattle.chunk_choice.specs.Choice.{ChoiceOf}

pub one_choice : (new good : Bor (List ℕ)) (isNew : Bool) (offset size : ℕ) (r q : Bor (List ℕ)) → ChoiceOf new good isNew offset size r → ChoiceOf new good isNew offset size q → (r.now ≡ q.now) × (r.ref_ptr ≡ q.ref_ptr)
one_choice new good isNew offset size r q h k = (h.bytes ∙ sym k.bytes, h.place ∙ sym k.place)
