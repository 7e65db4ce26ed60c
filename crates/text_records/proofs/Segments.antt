-- A line for each segment record.
-- Assumes nothing.
use Prim.Native.Nat.{ℕ, suc, ◌+◌, ◌<◌, ◌≤◌}
use mathlib.Core.Path.{◌≡◌}
use mathlib.Core.List.{List, [], ◌++◌}
use native.Mathlib.Numerals.{add-one}
use lib.ListN.{length, get_or, drop, drop_of_length-le}
use lib.Seq.{drop-cons}
use Rattle.segment_records.specs.declared.Segmentation.{Segmentation}
use Rattle.text_records.specs.Segments.{segment_text, segments_from}

module _ (records : List Segmentation) (i : ℕ) where
  pub line_more : (d : Segmentation) → i < length records → segments_from i (drop i records) ≡ segment_text i (get_or records i d) ++ segments_from (i + 1) (drop (i + 1) records)
  unfolding segments_from
  line_more d h = let e : drop (i + 1) records ≡ drop (suc i) records = rw (add-one i) in rw (drop-cons records i d h, e)

  pub line_none : length records ≤ i → segments_from i (drop i records) ≡ []
  unfolding segments_from
  line_none h = rw (drop_of_length-le records {i = i} h)
