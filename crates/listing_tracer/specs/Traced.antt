-- One call of a tracer, of what s is at hand, and the items that it yields.
-- Assumes nothing.
use Rattle.std.specs.Prelude.{ℕ, ◌+◌, ◌≤◌, ◌≡◌, Bool, List, [], ◌∷◌, ltb, length, get_or, take, drop}
use Rattle.base_shared.specs.Choice.{pick}
use Rattle.base_bits.specs.Refusal.{refusal_number}
use Rattle.base_types.specs.declared.header.Header.{Header}
use Rattle.base_types.specs.Header.{default_header}
use Rattle.chunk_answer.specs.declared.Answer.{Answer}
use Rattle.chunk_answer.specs.declared.Answer.TheVariants as answer
use Rattle.chunk_answer.specs.declared.ChunkRead.{ChunkRead}
use Rattle.chunk_parser.specs.Answer.{chunk_of}
use Rattle.ivf_walk.specs.declared.Event.{Event}
use Rattle.ivf_walk.specs.declared.Event.TheVariants as event
use Rattle.ivf_walk.specs.declared.Turn.{Turn}
use Rattle.ivf_walk.specs.Turn.{turn_of}
use Rattle.segment_records.specs.declared.Segmentation.{Segmentation}
use Rattle.listing_items.specs.Items.{Item, columns, frame, refused, file_refused, last, stepped, header_at}
use Rattle.listing_tracer.specs.declared.Tracer.{Tracer}
use Rattle.listing_tracer.specs.declared.Yields.{Yields}
use Rattle.listing_tracer.specs.declared.Yields.TheVariants.{More, Again, Columns, Frame, Refused, NoFile, Cut, Last, Over}
use Rattle.listing_tracer.specs.declared.Traced.{Traced}
use Rattle.listing_tracer.specs.Tracer.{tracer_at, after_refused, after_accepted, after_frame}

-- no frame is yielded
abbrev pub quiet : Tracer → ℕ → Yields → Traced
quiet t used yields = record { tracer = t; used = used; yields = yields; header = default_header }

-- a frame of the chunk that was read before
abbrev pub frame_traced : Tracer → Traced
frame_traced t =
    let i = t.frame in
    let h = header_at t.read i in
    record {
      tracer = after_frame t (stepped h t.records);
      used = 0;
      yields = Frame t.chunk i (get_or t.read.at i 0) (get_or t.read.size i 0);
      header = h;
    }

abbrev pub turned_to : Tracer → Turn → Yields → Traced
turned_to t u yields = quiet (tracer_at t u.stage) u.used yields

abbrev pub refused_traced : Tracer → Turn → ℕ → ℕ → Traced
refused_traced t u number i = quiet (after_refused t u.stage) u.used (Refused t.chunks number i)

abbrev pub chunk_traced : Tracer → Turn → ChunkRead → Answer → Traced
chunk_traced t u r (answer.Frames n) = quiet (after_accepted t u.stage r n) u.used Again
chunk_traced t u r answer.Empty = refused_traced t u 1 0
chunk_traced t u r answer.Short = refused_traced t u 2 0
chunk_traced t u r (answer.Past i) = refused_traced t u 3 i
chunk_traced t u r (answer.Header i e) = refused_traced t u (refusal_number e) i

-- a record's data stands behind its 12-byte header
abbrev pub data_traced : Tracer → List ℕ → Turn → ℕ → Traced
data_traced t s u n = let r = chunk_of (take n (drop 12 s)) t.state in chunk_traced t u r r.answer

abbrev pub DataThere : Turn → List ℕ → Type 0
DataThere u s = (n : ℕ) → u.event ≡ event.Data n → 12 + n ≤ length s

abbrev pub turn_traced : Tracer → List ℕ → Turn → Event → Traced
turn_traced t s u event.More = turned_to t u More
turn_traced t s u event.Pass = turned_to t u Again
turn_traced t s u event.NoFile = turned_to t u NoFile
turn_traced t s u event.Opened = turned_to t u Columns
turn_traced t s u (event.Data n) = data_traced t s u n
turn_traced t s u event.TooLong = refused_traced t u 9 0
turn_traced t s u event.Cut = turned_to t u (Cut t.chunks t.refused)
turn_traced t s u event.End = turned_to t u (Last t.chunks t.refused)
turn_traced t s u event.Over = turned_to t u Over

-- the frames of a chunk before the next turn
unfoldable pub traced_of : Tracer → List ℕ → Bool → Traced
traced_of t s ended = pick (ltb t.frame t.count) (frame_traced t) (let u = turn_of t.stage s ended in turn_traced t s u u.event)

-- what that is, as items
abbrev pub items_by : Yields → Header → List Segmentation → List Item
items_by More h records = []
items_by Again h records = []
items_by Columns h records = columns ∷ []
items_by (Frame c i at size) h records = frame c i at size h records ∷ []
items_by (Refused c number i) h records = refused c number i ∷ []
items_by NoFile h records = file_refused 7 ∷ []
items_by (Cut chunks n) h records = file_refused 8 ∷ last chunks n ∷ []
items_by (Last chunks n) h records = last chunks n ∷ []
items_by Over h records = []

abbrev pub items_in : Traced → List Item
items_in r = items_by r.yields r.header r.tracer.records
