-- A refusal is told by its number and its frame number.
-- Assumes nothing.
use Prim.Native.Nat.{ℕ}
use mathlib.Core.Path.{◌≡◌, refl, sym, ◌∙◌}
use lib.Dec.{eqb}
use Rattle.base_shared.specs.Choice.{pick}
use Rattle.base_bits.specs.declared.Refusal.TheVariants.{FrameMarker, SyncCode, PastEnd}
use Rattle.chunk_answer.specs.declared.Answer.{Answer}
use Rattle.chunk_answer.specs.declared.Answer.TheVariants.{Frames, Empty, Short, Past, Header}
use Rattle.chunk_answer.specs.Answer.{chunk_number, chunk_frame}

-- the refusal with that number and frame number
abbrev refusal_of : ℕ → ℕ → Answer
refusal_of n i =
    pick (eqb n 1) Empty
    (pick (eqb n 2) Short
    (pick (eqb n 3) (Past i)
    (pick (eqb n 4) (Header i FrameMarker)
    (pick (eqb n 5) (Header i SyncCode)
    (Header i PastEnd)))))

told : (a : Answer) → (chunk_number a ≡ 0 → ⊥) → a ≡ refusal_of (chunk_number a) (chunk_frame a)
told (Frames n) h = absurd (h refl)
told Empty h = refl
told Short h = refl
told (Past i) h = refl
told (Header i FrameMarker) h = refl
told (Header i SyncCode) h = refl
told (Header i PastEnd) h = refl

pub one_refusal : (a b : Answer) → (chunk_number a ≡ 0 → ⊥) → chunk_number a ≡ chunk_number b → chunk_frame a ≡ chunk_frame b → a ≡ b
one_refusal a b h n i = told a h ∙ rw (n, i) (sym (told b (λ z. h (n ∙ z))))
