-- Without its records the long form is the listing.
-- Assumes nothing.
use Prim.Native.Nat.{ℕ, zero, suc, ◌+◌}
use mathlib.Core.Path.{◌≡◌, refl, sym, ap, ◌∙◌}
use mathlib.Core.List.{List, [], ◌∷◌, ◌++◌, map, append-nil, append_assoc, map-append}
use native.Mathlib.Nat.{add-zero, zero-add}
use native.Mathlib.Numerals.{add-one}
use native.Mathlib.Omega.{arith}
use Rattle.base_shared.specs.Lists.{values_of}
use Rattle.base_types.specs.declared.state.ReaderState.{ReaderState}
use Rattle.chunk_answer.specs.declared.Answer.{Answer}
use Rattle.chunk_answer.specs.declared.Answer.TheVariants as answer
use Rattle.chunk_answer.specs.declared.ChunkRead.{ChunkRead}
use Rattle.chunk_parser.specs.Answer.{chunk_of}
use Rattle.segment_records.specs.declared.Segmentation.{Segmentation}
use Rattle.ivf_walk.specs.Said.{Said, no_file, opened, chunk, too_long, cut, end, file_said}
use Rattle.text_line.specs.Line.{text_of}
use Rattle.listing_file.specs.Chunk.{line_of_frame, answer_lines, refusals}
use Rattle.listing_file.specs.Listing.{lines_of, listing}
use Rattle.listing_items.specs.Items.{item_line, stepped, header_at, frame_items, answer_items, records_after, items_of, long_form}

module _ (c : ℕ) (r : ChunkRead) where
  -- behind the lines of the frames before i
  frame_lines : (n i : ℕ) (records : List Segmentation)
      → values_of (line_of_frame c r) i ++ map item_line (frame_items c r i n records) ≡ values_of (line_of_frame c r) (i + n)
  unfolding frame_items values_of
  frame_lines zero i records = rw (add-zero i) (append-nil _)
  frame_lines (suc n) i records =
      let m : i + suc n ≡ suc i + n = omega arith in
      sym (append_assoc (values_of (line_of_frame c r) i) (line_of_frame c r i ∷ []) _)
      ∙ rw (add-one i, m) (frame_lines n (suc i) (stepped (header_at r i) records))

  answer_lines_lem : (records : List Segmentation) (a : Answer) → map item_line (answer_items c r records a) ≡ answer_lines c r a
  unfolding values_of
  answer_lines_lem records (answer.Frames n) = rw zero-add at (frame_lines n 0 records)
  answer_lines_lem records answer.Empty = refl
  answer_lines_lem records answer.Short = refl
  answer_lines_lem records (answer.Past i) = refl
  answer_lines_lem records (answer.Header i e) = refl

item_lines : (said : List Said) (chunks n : ℕ) (st : ReaderState) (records : List Segmentation) → map item_line (items_of chunks n st records said) ≡ lines_of chunks n st said
unfolding items_of lines_of
item_lines [] chunks n st records = refl
item_lines (no_file ∷ others) chunks n st records = rw (item_lines others chunks n st records)
item_lines (opened ∷ others) chunks n st records = rw (item_lines others chunks n st records)
item_lines (chunk bytes ∷ others) chunks n st records =
    let r = chunk_of bytes st in
    let after = records_after r records r.answer in
    let m = n + refusals r.answer in
    map-append item_line (answer_items chunks r records r.answer) (items_of (chunks + 1) m r.state after others)
    ∙ rw (answer_lines_lem chunks r records r.answer, item_lines others (chunks + 1) m r.state after)
item_lines (too_long ∷ others) chunks n st records = rw (item_lines others (chunks + 1) (n + 1) st records)
item_lines (cut ∷ others) chunks n st records = rw (item_lines others chunks n st records)
item_lines (end ∷ others) chunks n st records = rw (item_lines others chunks n st records)

pub long_form_listed : (file : List ℕ) → text_of (map item_line (long_form file)) ≡ listing file
unfolding long_form listing
long_form_listed file = ap text_of (item_lines (file_said file) 0 0 _ _)
