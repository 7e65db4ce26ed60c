-- The rows of Rows.antt as one statement about the definitions.
-- Assumes nothing.
use Rattle.std.specs.Prelude.{◌≡◌, List, [], ◌∷◌}
use Rattle.base_shared.specs.Lists.{each}
use Rattle.segment_records.specs.Segmentation.{segment_of}
use Rattle.test_segment_rows.specs.Settings.{SegmentRow}
use Rattle.test_segment_rows.specs.Rows.{old_records, absolute_row, relative_row, off_row, zero_row}

abbrev pub segment_rows : List SegmentRow
segment_rows = absolute_row ∷ relative_row ∷ off_row ∷ zero_row ∷ []

abbrev pub RowsHold : List SegmentRow → Type 0
RowsHold [] = Unit
RowsHold (row ∷ others) = (each (segment_of row.header) 0 old_records ≡ row.after) × RowsHold others
