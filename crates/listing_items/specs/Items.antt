-- What the long form of a file prints, in order: docs/LONG-FORM.md.
-- Assumes nothing.
use Rattle.std.specs.Prelude.{ℕ, zero, suc, ◌+◌, List, [], ◌∷◌, ◌++◌, get_or, replicate}
use Rattle.base_shared.specs.Lists.{each}
use Rattle.base_bits.specs.Refusal.{refusal_number}
use Rattle.base_types.specs.declared.header.Header.{Header}
use Rattle.base_types.specs.declared.state.ReaderState.{ReaderState}
use Rattle.base_types.specs.Header.{default_header}
use Rattle.base_types.specs.ReaderState.{fresh_state}
use Rattle.chunk_answer.specs.declared.Answer.{Answer}
use Rattle.chunk_answer.specs.declared.Answer.TheVariants as answer
use Rattle.chunk_answer.specs.declared.ChunkRead.{ChunkRead}
use Rattle.chunk_parser.specs.Answer.{chunk_of}
use Rattle.segment_records.specs.declared.Segmentation.{Segmentation}
use Rattle.segment_records.specs.Segmentation.{default_segment, segment_of}
use Rattle.ivf_walk.specs.Said.{Said, no_file, opened, chunk, too_long, cut, end, file_said}
use Rattle.text_line.specs.Line.{Word}
use Rattle.text_frame_line.specs.Frame.{frame_line}
use Rattle.text_listing.specs.Lines.{column_line, refused_line, file_refused_line, last_line}
use Rattle.listing_file.specs.Chunk.{refusals}

pub data Item : Type 0 where
  columns : Item
  -- a frame of a chunk: both numbers, its place and size, its header, and the eight segment records after it
  frame : ℕ → ℕ → ℕ → ℕ → Header → List Segmentation → Item
  -- a chunk, by docs/RULES.md's number, and the number of the frame
  refused : ℕ → ℕ → ℕ → Item
  -- by docs/RULES.md's number
  file_refused : ℕ → Item
  -- so many chunks, of which so many were refused
  last : ℕ → ℕ → Item

-- its line in the listing, without the records
abbrev pub item_line : Item → List Word
item_line columns = column_line
item_line (frame c i at size h records) = frame_line c i at size h
item_line (refused c number i) = refused_line c number i
item_line (file_refused number) = file_refused_line number
item_line (last chunks n) = last_line chunks n

-- the step of a frame
abbrev pub stepped : Header → List Segmentation → List Segmentation
stepped h = each (segment_of h) 0

abbrev pub header_at : ChunkRead → ℕ → Header
header_at r i = get_or r.headers i default_header

-- from frame i of chunk c on, so many frames
unfoldable pub frame_items : ℕ → ChunkRead → ℕ → ℕ → List Segmentation → List Item
frame_items c r i zero records = []
frame_items c r i (suc n) records =
    let after = stepped (header_at r i) records in
    frame c i (get_or r.at i 0) (get_or r.size i 0) (header_at r i) after ∷ frame_items c r (i + 1) n after

-- the records after them
unfoldable pub records_past : ChunkRead → ℕ → ℕ → List Segmentation → List Segmentation
records_past r i zero records = records
records_past r i (suc n) records = records_past r (i + 1) n (stepped (header_at r i) records)

abbrev pub answer_items : ℕ → ChunkRead → List Segmentation → Answer → List Item
answer_items c r records (answer.Frames n) = frame_items c r 0 n records
answer_items c r records answer.Empty = refused c 1 0 ∷ []
answer_items c r records answer.Short = refused c 2 0 ∷ []
answer_items c r records (answer.Past i) = refused c 3 i ∷ []
answer_items c r records (answer.Header i e) = refused c (refusal_number e) i ∷ []

-- a refused chunk leaves them as they were
abbrev pub records_after : ChunkRead → List Segmentation → Answer → List Segmentation
records_after r records (answer.Frames n) = records_past r 0 n records
records_after r records answer.Empty = records
records_after r records answer.Short = records
records_after r records (answer.Past i) = records
records_after r records (answer.Header i e) = records

-- as the listing's lines (listing_file), with the segment records carried along
unfoldable pub items_of : ℕ → ℕ → ReaderState → List Segmentation → List Said → List Item
items_of chunks n st records [] = []
items_of chunks n st records (no_file ∷ others) = file_refused 7 ∷ items_of chunks n st records others
items_of chunks n st records (opened ∷ others) = columns ∷ items_of chunks n st records others
items_of chunks n st records (chunk bytes ∷ others) =
    let r = chunk_of bytes st in
    answer_items chunks r records r.answer
    ++ items_of (chunks + 1) (n + refusals r.answer) r.state (records_after r records r.answer) others
items_of chunks n st records (too_long ∷ others) = refused chunks 9 0 ∷ items_of (chunks + 1) (n + 1) st records others
items_of chunks n st records (cut ∷ others) = file_refused 8 ∷ last chunks n ∷ items_of chunks n st records others
items_of chunks n st records (end ∷ others) = last chunks n ∷ items_of chunks n st records others

abbrev pub default_records : List Segmentation
default_records = replicate 8 default_segment

unfoldable pub long_form : List ℕ → List Item
long_form file = items_of 0 0 fresh_state default_records (file_said file)
