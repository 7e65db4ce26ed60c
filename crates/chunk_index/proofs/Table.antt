-- docs/RULES.md's table, numbers 1 to 3: each is given exactly when its line says so, and a chunk is split exactly if
-- none is.
-- Assumes nothing.
use Prim.Native.Nat.{ℕ}
use mathlib.Core.Path.{◌≡◌, refl}
use mathlib.Core.Bool.{Bool, true, false}
use mathlib.Core.Logic.{◌↔◌, ⊎_elim}
use mathlib.Core.List.{List}
use native.Mathlib.Omega.{arith}
use lib.Dec.{eqb, ltb}
use lib.ListN.{length}
use borrow.Author.Tests.{ltb-true, ltb-false, eqb-true, eqb-false}
use Rattle.chunk_index.specs.declared.Answer.{Answer}
use Rattle.chunk_index.specs.declared.Answer.TheVariants.{Frames, Empty, Short, Past}
use Rattle.chunk_index.specs.Layout.{marker, last_byte, index_bytes, layout_of}
use Rattle.chunk_index.specs.Split.{split_of}
use Rattle.chunk_index.specs.Table.{NoBytes, Cut, FirstPast, AllFit}
use Rattle.chunk_index.proofs.First.{past_or_none, placed_past, placed_none}
use Rattle.chunk_index.proofs.Cases.{split_empty, split_cut, split_placed}

-- when each answer is given, in docs/RULES.md's order: numbers 1, 2 and 3, and a chunk that is split
abbrev pub SplitWhen : Answer → List ℕ → Type 0
SplitWhen Empty s = NoBytes s
SplitWhen Short s = Cut s
SplitWhen (Past i) s = (NoBytes s → ⊥) × (Cut s → ⊥) × FirstPast (layout_of s) i
SplitWhen (Frames n) s = AllFit s × (n ≡ (layout_of s).frames)

answered : (s : List ℕ) → SplitWhen (split_of s).answer s
answered s = go (eqb (length s) 0) refl (eqb (marker (last_byte s)) 6) refl (ltb (length s) (index_bytes (last_byte s))) refl
  where
    placed_answered : (NoBytes s → ⊥) → (Cut s → ⊥) → SplitWhen (split_of s).answer s
    placed_answered n k =
        rw (split_placed s n k)
        (⊎_elim (λ f. rw (placed_past _ _ f.1) (n, k, f.1)) (λ f. rw (placed_none _ f.1) ((n, k, f.1), refl)) (past_or_none (layout_of s)))

    go : (a : Bool) → eqb (length s) 0 ≡ a → (b : Bool) → eqb (marker (last_byte s)) 6 ≡ b → (d : Bool) → ltb (length s) (index_bytes (last_byte s)) ≡ d → SplitWhen (split_of s).answer s
    go true z b m d l = let h : NoBytes s = eqb-true (length s) 0 z in rw (split_empty s h) h
    go false z true m true l = let h : Cut s = (eqb-true (marker (last_byte s)) 6 m, ltb-true (length s) (index_bytes (last_byte s)) l) in rw (split_cut s h) h
    go false z true m false l = placed_answered (eqb-false (length s) 0 z) (λ k. omega (arith, ltb-false (length s) (index_bytes (last_byte s)) l, k.1))
    go false z false m d l = placed_answered (eqb-false (length s) 0 z) (λ k. eqb-false (marker (last_byte s)) 6 m k.0)

-- an answer is given exactly when the table says so
pub exactly : (s : List ℕ) (a : Answer) → ((split_of s).answer ≡ a) ↔ SplitWhen a s
exactly s a = (λ e. rw e at (answered s), answer a)
  where
    answer : (a : Answer) → SplitWhen a s → (split_of s).answer ≡ a
    answer Empty h = rw (split_empty s h)
    answer Short h = rw (split_cut s h)
    answer (Past i) h = rw (split_placed s h.0 h.1, placed_past _ i h.2)
    answer (Frames n) h = rw (split_placed s h.0.0 h.0.1, placed_none _ h.0.2, h.1)
