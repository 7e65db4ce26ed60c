-- What `split_of` and `layout_of` are in each case, and what the code knows of the case it is in.
-- Assumes nothing.
use Prim.Native.Nat.{ℕ, ◌+◌, ◌-◌, ◌*◌, ◌<◌, ◌≤◌}
use mathlib.Core.Path.{◌≡◌, refl, sym, ap, ◌∙◌}
use mathlib.Core.Bool.{Bool, true, false, ◌&&◌}
use mathlib.Core.List.{List, [], ◌∷◌}
use native.Mathlib.Omega.{arith}
use lib.ListN.{length, get_or}
use borrow.Author.Tests.{lt-ltb, ltb-true, eq-eqb, ne_eqb, eqb-true}
use Rattle.chunk_index.specs.declared.Answer.TheVariants.{Empty, Short}
use Rattle.chunk_index.specs.declared.Split.{Split}
use Rattle.chunk_index.specs.Layout.{marker, bytes_per_size, frames_in, index_bytes, last_byte, announced, cut, indexed, laid, whole, by_index, layout_of}
use Rattle.chunk_index.specs.Split.{refused_split, placed, split_of}
use Rattle.chunk_index.specs.Table.{NoBytes, Cut, Indexed}

not_both : (a b : Bool) → (a ≡ true → b ≡ true → ⊥) → (a && b) ≡ false
not_both true true h = absurd (h refl refl)
not_both true false h = refl
not_both false b h = refl

-- without bytes there is no index
pub no_bytes : (s : List ℕ) → NoBytes s → marker (last_byte s) ≡ 6 → ⊥
no_bytes [] h m = omega arith
no_bytes (b ∷ s) h m = omega arith

module _ (s : List ℕ) where
  pub split_empty : NoBytes s → split_of s ≡ refused_split Empty
  unfolding split_of
  split_empty h = rw (eq-eqb _ _ h)

  pub split_cut : Cut s → split_of s ≡ refused_split Short
  unfolding split_of cut announced
  split_cut h = rw (ne_eqb _ _ (λ z. no_bytes s z h.0), eq-eqb _ _ h.0, lt-ltb _ _ h.1)

  pub split_placed : (NoBytes s → ⊥) → (Cut s → ⊥) → split_of s ≡ placed (layout_of s)
  unfolding split_of cut announced
  split_placed h k = rw (ne_eqb _ _ h, not_both _ _ (λ m l. k (eqb-true _ _ m, ltb-true _ _ l)))

  pub layout_indexed : Indexed s → layout_of s ≡ by_index s
  unfolding layout_of indexed announced
  layout_indexed h = rw (eq-eqb _ _ h.0, eq-eqb _ _ h.1)

  pub layout_whole : (Indexed s → ⊥) → layout_of s ≡ whole s
  unfolding layout_of indexed announced
  layout_whole h = rw (not_both _ _ (λ m e. h (eqb-true _ _ m, eqb-true _ _ e)))

  -- the chunk is one frame
  pub split_whole : (NoBytes s → ⊥) → (Cut s → ⊥) → (Indexed s → ⊥) → placed (whole s) ≡ split_of s
  split_whole h k i = sym (split_placed h k ∙ ap placed (layout_whole i))

-- the last byte announces an index of `count` sizes of n bytes
module _ (s : List ℕ) (last n count : ℕ) (e : last ≡ last_byte s) (m : marker last ≡ 6) (en : n ≡ bytes_per_size last) (ec : count ≡ frames_in last) (r : Split) where
  marked : marker (last_byte s) ≡ 6
  marked = rw e at m

  bytes : 2 + count * n ≡ index_bytes (last_byte s)
  bytes = rw (en, ec, e)

  pub announced_cut : length s < 2 + count * n → r ≡ refused_split Short → r ≡ split_of s
  announced_cut l h = h ∙ sym (split_cut s (marked, rw bytes at l))

  module _ (l : 2 + count * n ≤ length s) where
    enough : Cut s → ⊥
    enough k = omega (arith, bytes)

    some : NoBytes s → ⊥
    some z = no_bytes s z marked

    pub announced_indexed : get_or s (length s - (2 + count * n)) 0 ≡ last → r ≡ placed (laid s (length s - (2 + count * n)) count (length s - (2 + count * n) + 1) n) → r ≡ split_of s
    announced_indexed f h =
        h ∙ rw (bytes, en, ec, e) (sym (split_placed s some enough ∙ ap placed (layout_indexed s (marked, rw (bytes, e) at f))))

    pub announced_whole : (get_or s (length s - (2 + count * n)) 0 ≡ last → ⊥) → r ≡ placed (whole s) → r ≡ split_of s
    announced_whole f h = h ∙ split_whole s some enough (λ i. f (rw (bytes, e) i.1))
