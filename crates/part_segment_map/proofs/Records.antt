-- The records that the code makes are those of the values.
-- Assumes nothing.
use Prim.Native.Nat.{ℕ}
use mathlib.Core.Path.{◌≡◌}
use mathlib.Core.Bool.{Bool, true, false}
use mathlib.Core.List.{List}
use lib.Dec.{eqb}
use lib.ListN.{replicate}
use borrow.Author.Tests.{eq-eqb, ne_eqb}
use Rattle.std.specs.Prelude.{Result, Ok}
use Rattle.base_bits.specs.declared.Cursor.{Cursor}
use Rattle.base_bits.specs.declared.Refusal.{Refusal}
use Rattle.base_syntax.specs.Reader.{read, over, group_if}
use Rattle.base_syntax.specs.Many.{Times, each_of}
use Rattle.grammar_tables.specs.Tables.{ProbValues}
use Rattle.grammar_tables.specs.Reading.{no_prob}
use Rattle.grammar_settings.specs.Settings.{prob_of}
use Rattle.base_segmentation.specs.declared.SegmentationParams.{SegmentationParams}
use Rattle.part_segment_map.specs.Probs.{ProbsAre, ProbsAreIf}
use Rattle.part_segment_map.specs.Map.{with_map, map_of}
use Rattle.base_syntax.proofs.Rows.{same_row}

-- probabilities that are there only if a test holds
module _ (b : Bool) (s : List ℕ) (n : ℕ) where
  pub probs_there : (p : ℕ) (r : Result (List ℕ × Cursor) Refusal) → b ≡ true → ProbsAre s p n r → ProbsAreIf b s p n r
  unfolding group_if
  probs_there p r h e = λ x y. rw h (e x y)

  pub probs_none : (c : Cursor) → b ≡ false → ProbsAreIf b s c.at n (Ok (replicate n 255, c))
  unfolding group_if prob_of
  probs_none c h = λ x y. rw (h, same_row prob_of no_prob n)

-- the settings after the map's part
module _ (old : SegmentationParams) (m u : ℕ) (c : Cursor) (t : Times 7 ProbValues) (v : Times 3 ProbValues) where
  pub map_read : (tree pred : List ℕ) → m ≡ 1 → tree ≡ each_of prob_of 7 t → pred ≡ each_of prob_of 3 v
      → ◌≡◌ {A = Result (SegmentationParams × Cursor) Refusal} (Ok (with_map old (eqb m 1) tree pred (eqb u 1), c)) (over (map_of old) (read (record { update_map = m; tree_probs = t; temporal_update = u; pred_probs = v }) c.at))
  unfolding map_of
  map_read tree pred em et ep = rw (eq-eqb m 1 em, et, ep)

  pub map_kept : (m ≡ 1 → ⊥)
      → ◌≡◌ {A = Result (SegmentationParams × Cursor) Refusal} (Ok (with_map old (eqb m 1) old.tree_probs old.pred_probs old.temporal_update, c)) (over (map_of old) (read (record { update_map = m; tree_probs = t; temporal_update = u; pred_probs = v }) c.at))
  unfolding map_of
  map_kept nm = rw (ne_eqb m 1 nm)
