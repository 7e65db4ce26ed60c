-- The answer to splitting a chunk is what is demanded, and no other is.
-- Assumes nothing.
use Prim.Native.Nat.{ℕ}
use mathlib.Core.Path.{◌≡◌, refl, sym, ◌∙◌}
use mathlib.Core.List.{List}
use native.Mathlib.Omega.{arith}
use lib.Dec.{eqb}
use Rattle.base_shared.specs.Choice.{pick}
use Rattle.chunk_index.specs.declared.Answer.{Answer}
use Rattle.chunk_index.specs.declared.Answer.TheVariants.{Frames, Empty, Short, Past}
use Rattle.chunk_index.specs.declared.Split.{Split}
use Rattle.chunk_index.specs.Split.{split_number, split_frame, refused_split, split_of}
use Rattle.chunk_index.specs.Demand.{SplitRefused, SplitDemanded}
use Rattle.chunk_index.proofs.First.{placed_past, placed_none}
use Rattle.chunk_index.proofs.Cases.{split_empty, split_cut, split_placed}
use Rattle.chunk_index.proofs.Table.{exactly}

-- the refusal with that number and frame number
abbrev refusal_of : ℕ → ℕ → Answer
refusal_of n i = pick (eqb n 1) Empty (pick (eqb n 2) Short (Past i))

told : (a : Answer) → (split_number a ≡ 0 → ⊥) → a ≡ refusal_of (split_number a) (split_frame a)
told (Frames n) h = absurd (h refl)
told Empty h = refl
told Short h = refl
told (Past i) h = refl

one_refusal : {n i : ℕ} {r q : Split} → (n ≡ 0 → ⊥) → SplitRefused n i r → SplitRefused n i q → r ≡ q
one_refusal {r = r} {q = q} z h k =
    let a : r.answer ≡ q.answer = told r.answer (rw h.number z) ∙ rw (h.number, h.frame, ← k.number, ← k.frame) (sym (told q.answer (rw k.number z))) in
    h.nothing ∙ rw a (sym k.nothing)

module _ (s : List ℕ) where
  refused_is : (a : Answer) → split_of s ≡ refused_split a → SplitRefused (split_number a) (split_frame a) (split_of s)
  refused_is a e = rw e (record { number = refl; frame = refl; nothing = refl })

  pub demanded : SplitDemanded s (split_of s)
  demanded = record {
    row_1 = λ h. refused_is Empty (split_empty s h);
    row_2 = λ h. refused_is Short (split_cut s h);
    row_3 = λ i n k h. refused_is (Past i) (split_placed s n k ∙ placed_past _ i h);
    frames = λ h. split_placed s h.0 h.1 ∙ placed_none _ h.2;
  }

  pub no_other : (r : Split) → SplitDemanded s r → r ≡ split_of s
  no_other r h = go (split_of s).answer refl
    where
      go : (a : Answer) → (split_of s).answer ≡ a → r ≡ split_of s
      go Empty e = let g = (exactly s Empty).0 e in one_refusal (λ z. omega arith) (h.row_1 g) (demanded.row_1 g)
      go Short e = let g = (exactly s Short).0 e in one_refusal (λ z. omega arith) (h.row_2 g) (demanded.row_2 g)
      go (Past i) e = let g = (exactly s (Past i)).0 e in one_refusal (λ z. omega arith) (h.row_3 i g.0 g.1 g.2) (demanded.row_3 i g.0 g.1 g.2)
      go (Frames n) e = let g = (exactly s (Frames n)).0 e in h.frames g.0 ∙ sym (demanded.frames g.0)
