-- The record that the code makes is that of the values.
-- Assumes nothing.
use Prim.Native.Nat.{ℕ, ◌≤◌, ◌<◌}
use mathlib.Core.Path.{◌≡◌}
use lib.Dec.{eqb, leb}
use borrow.Author.Tests.{eq-eqb, ne_eqb, le-leb, lt-leb}
use Rattle.std.specs.Prelude.{Result, Ok}
use Rattle.base_bits.specs.declared.Cursor.{Cursor}
use Rattle.base_bits.specs.declared.Refusal.{Refusal}
use Rattle.base_syntax.specs.Reader.{over, read}
use Rattle.base_shared.specs.Choice.{pick}
use Rattle.part_sampling.specs.declared.Sampling.{Sampling}
use Rattle.part_sampling.specs.Sampling.{sampling_of}
use Rattle.grammar_settings.specs.Enums.{range_of, subsampling}

-- a choice by a test, as a step along the branch that the code took
module _ {A : Type 0} (a b : ℕ) (x p q : A) where
  pub equal : a ≡ b → x ≡ p → x ≡ pick (eqb a b) p q
  equal e h = rw (eq-eqb a b e) h

  pub different : (a ≡ b → ⊥) → x ≡ q → x ≡ pick (eqb a b) p q
  different e h = rw (ne_eqb a b e) h

  pub reached : a ≤ b → x ≡ p → x ≡ pick (leb a b) p q
  reached e h = rw (le-leb a b e) h

  pub missed : b < a → x ≡ q → x ≡ pick (leb a b) p q
  missed e h = rw (lt-leb a b e) h

pub ruleset picking = (equal, different, reached, missed)

pub sampling_read : (profile space r x y z : ℕ) (c : Cursor) (a : Sampling)
    → a ≡ record { color_range = range_of space r; subsampling_x = subsampling profile space x; subsampling_y = subsampling profile space y }
    → ◌≡◌ {A = Result (Sampling × Cursor) Refusal} (Ok (a, c)) (over (sampling_of profile space) (read (record { color_range = r; subsampling_x = x; subsampling_y = y; reserved_zero = z }) c.at))
unfolding sampling_of
sampling_read profile space r x y z c a h = rw h
