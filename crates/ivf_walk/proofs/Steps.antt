-- A turn, as the code meets it.
-- Assumes nothing.
use Prim.Native.Nat.{ℕ, ◌+◌, ◌-◌, ◌<◌, ◌≤◌}
use mathlib.Core.Path.{◌≡◌, refl}
use mathlib.Core.Bool.{Bool, true, false, and-false}
use mathlib.Core.List.{List}
use native.Mathlib.Omega.{arith}
use lib.Dec.{eqb, ltb}
use lib.ListN.{length}
use borrow.Author.Tests.{lt-ltb, le-ltb, le-leb, lt-leb, ltb-true, ltb-false, eqb-true}
use Rattle.base_shared.specs.Choice.{pick}
use Rattle.base_little.specs.Little.{little}
use Rattle.ivf_file.specs.File.{header_bytes, file_of}
use Rattle.ivf_arriving.specs.declared.Next.{Next}
use Rattle.ivf_arriving.specs.declared.Next.TheVariants as next
use Rattle.ivf_arriving.specs.Next.{empty_by, short_by, data_by, next_record}
use Rattle.ivf_walk.specs.declared.Stage.TheVariants.{Start, Records, Skip, Over}
use Rattle.ivf_walk.specs.declared.Event.TheVariants.{More, TooLong, Cut}
use Rattle.ivf_walk.specs.Turn.{takes, file_turn, start_turn, skip_turn}

module _ (s : List ℕ) where
  pub all_there : file_turn (file_of s) ≡ start_turn s true
  unfolding start_turn
  all_there = rw (and-false (ltb (length s) header_bytes))

  pub too_few : length s < header_bytes → takes More 0 Start ≡ start_turn s false
  unfolding start_turn
  too_few h = rw (lt-ltb _ _ h)

  pub enough : header_bytes ≤ length s → file_turn (file_of s) ≡ start_turn s false
  unfolding start_turn
  enough h = rw (le-ltb _ _ h)

module _ (left : ℕ) (s : List ℕ) where
  pub all_passed : (ended : Bool) → left ≤ length s → takes TooLong left Records ≡ skip_turn left s ended
  unfolding skip_turn
  all_passed ended h = rw (le-leb _ _ h)

  module _ (h : length s < left) where
    pub cut_inside : takes Cut (length s) Over ≡ skip_turn left s true
    unfolding skip_turn
    cut_inside = rw (lt-leb _ _ h)

    pub part_passed : takes More (length s) (Skip (left - length s)) ≡ skip_turn left s false
    unfolding skip_turn
    part_passed = rw (lt-leb _ _ h)

-- what a record that stands next takes is at hand, and more is asked for only where that is little
abbrev pub AtHand : Bool → ℕ → Next → Type 0
AtHand ended m next.End = Unit
AtHand ended m next.More = (ended ≡ false) × (m < 65548)
AtHand ended m next.Cut = Unit
AtHand ended m (next.Data n) = 12 + n ≤ m
AtHand ended m (next.Long n) = 12 ≤ m

by_end : (ended : Bool) {m : ℕ} (n : Next) → m < 65548 → AtHand ended m n → AtHand ended m (pick ended n next.More)
by_end true n h k = k
by_end false n h k = (refl, h)

data_there : (s : List ℕ) (ended : Bool) (n : ℕ) → 12 ≤ length s → AtHand ended (length s) (data_by s ended n)
unfolding data_by
data_there s ended n h = go (ltb 65536 n) refl (ltb (length s) (12 + n)) refl
  where
    go : (b : Bool) → ltb 65536 n ≡ b → (d : Bool) → ltb (length s) (12 + n) ≡ d → AtHand ended (length s) (pick b (next.Long n) (pick d (short_by ended) (next.Data n)))
    go true e d k = h
    go false e true k = by_end ended next.Cut (omega (arith, ltb-false 65536 n e, ltb-true (length s) (12 + n) k)) tt
    go false e false k = ltb-false _ _ k

pub next_there : (s : List ℕ) (ended : Bool) → AtHand ended (length s) (next_record s ended)
unfolding next_record
next_there s ended = go (eqb (length s) 0) refl (ltb (length s) 12) refl
  where
    go : (a : Bool) → eqb (length s) 0 ≡ a → (b : Bool) → ltb (length s) 12 ≡ b → AtHand ended (length s) (pick a (empty_by ended) (pick b (short_by ended) (data_by s ended (little s 0 4))))
    go true z b e = by_end ended next.End (omega (arith, eqb-true (length s) 0 z)) tt
    go false z true e = by_end ended next.Cut (omega (arith, ltb-true (length s) 12 e)) tt
    go false z false e = data_there s ended (little s 0 4) (ltb-false _ _ e)
