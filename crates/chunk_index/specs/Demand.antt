-- What is demanded of the answer to splitting a chunk s: docs/RULES.md's table, numbers 1 to 3, and the index rule.
-- Assumes nothing.
use Rattle.std.specs.Prelude.{ℕ, ◌≡◌, List}
use Rattle.chunk_index.specs.declared.Split.{Split}
use Rattle.chunk_index.specs.Layout.{layout_of}
use Rattle.chunk_index.specs.Table.{NoBytes, Cut, FirstPast, AllFit}
use Rattle.chunk_index.specs.Split.{split_number, split_frame, refused_split, places}

-- r is a refusal with number n for frame i: no places
pub record SplitRefused (n i : ℕ) (r : Split) : Type 0 where
  pub number : split_number r.answer ≡ n
  pub frame : split_frame r.answer ≡ i
  pub nothing : r ≡ refused_split r.answer

pub record SplitDemanded (s : List ℕ) (r : Split) : Type 0 where
  pub row_1 : NoBytes s → SplitRefused 1 0 r
  pub row_2 : Cut s → SplitRefused 2 0 r
  pub row_3 : (i : ℕ) → (NoBytes s → ⊥) → (Cut s → ⊥) → FirstPast (layout_of s) i → SplitRefused 3 i r
  pub frames : AllFit s → r ≡ places (layout_of s)
