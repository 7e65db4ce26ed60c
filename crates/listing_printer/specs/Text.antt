-- The text of the long form: docs/LONG-FORM.md.
-- Assumes nothing.
use Rattle.std.specs.Prelude.{ℕ, List, [], ◌∷◌, ◌++◌}
use Rattle.text_line.specs.Line.{line_text}
use Rattle.text_records.specs.Header.{header_text}
use Rattle.text_records.specs.Segments.{segments_text}
use Rattle.listing_items.specs.Items.{Item, columns, frame, refused, file_refused, last, item_line, long_form}

-- what stands under an item's line: a frame's header, and the segment records after it
abbrev pub under_line : Item → List ℕ
under_line columns = []
under_line (frame c i at size h records) = header_text h ++ segments_text records
under_line (refused c number i) = []
under_line (file_refused number) = []
under_line (last chunks n) = []

abbrev pub item_text : Item → List ℕ
item_text item = line_text (item_line item) ++ under_line item

unfoldable pub items_text : List Item → List ℕ
items_text [] = []
items_text (item ∷ others) = item_text item ++ items_text others

unfoldable pub long_text : List ℕ → List ℕ
long_text file = items_text (long_form file)
