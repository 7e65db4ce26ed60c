-- One call of a lister, of what s is at hand.
-- Assumes nothing.
use Rattle.std.specs.Prelude.{ℕ, ◌+◌, ◌≡◌, Bool, List, [], ◌∷◌, leb, length, take, drop}
use Rattle.base_shared.specs.Choice.{pick_t}
use Rattle.base_bytes.specs.Put.{Written}
use Rattle.chunk_answer.specs.declared.ChunkRead.{ChunkRead}
use Rattle.chunk_parser.specs.Answer.{chunk_of}
use Rattle.ivf_walk.specs.declared.Stage.{Stage}
use Rattle.ivf_walk.specs.declared.Event.{Event}
use Rattle.ivf_walk.specs.declared.Event.TheVariants as event
use Rattle.ivf_walk.specs.declared.Turn.{Turn}
use Rattle.ivf_walk.specs.Turn.{turn_of}
use Rattle.text_line.specs.Line.{Word, text_of}
use Rattle.text_listing.specs.Lines.{column_line, refused_line, file_refused_line, last_line}
use Rattle.listing_file.specs.Chunk.{chunk_lines}
use Rattle.listing_lister.specs.declared.Lister.{Lister}
use Rattle.listing_lister.specs.declared.Wants.{Wants}
use Rattle.listing_lister.specs.declared.Wants.TheVariants.{Room, Input, Again, Whole, Refused, Nothing}
use Rattle.listing_lister.specs.declared.Fed.{Fed}
use Rattle.listing_lister.specs.Lister.{at_stage, after_chunk, after_too_long}

-- 4096 bytes are left from `at` on
unfoldable pub has_room : ℕ → ℕ → Bool
has_room len at = leb (at + 4096) len

abbrev pub wants_of : Event → Wants
wants_of event.More = Input
wants_of event.Pass = Again
wants_of event.NoFile = Refused
wants_of event.Opened = Again
wants_of (event.Data n) = Again
wants_of event.TooLong = Again
wants_of event.Cut = Refused
wants_of event.End = Whole
wants_of event.Over = Nothing

-- the data of a record behind its header, read under the remembered state
abbrev pub read_of : Lister → List ℕ → ℕ → ChunkRead
read_of l s n = chunk_of (take n (drop 12 s)) l.state

-- the lines of everything but a record's data
abbrev pub event_lines : Lister → Event → List (List Word)
event_lines l event.More = []
event_lines l event.Pass = []
event_lines l event.NoFile = file_refused_line 7 ∷ []
event_lines l event.Opened = column_line ∷ []
event_lines l (event.Data n) = []
event_lines l event.TooLong = refused_line l.chunks 9 0 ∷ []
event_lines l event.Cut = file_refused_line 8 ∷ last_line l.chunks l.refused ∷ []
event_lines l event.End = last_line l.chunks l.refused ∷ []
event_lines l event.Over = []

abbrev pub lister_at : Lister → Stage → Event → Lister
lister_at l stage event.More = at_stage l stage
lister_at l stage event.Pass = at_stage l stage
lister_at l stage event.NoFile = at_stage l stage
lister_at l stage event.Opened = at_stage l stage
lister_at l stage (event.Data n) = at_stage l stage
lister_at l stage event.TooLong = after_too_long l stage
lister_at l stage event.Cut = at_stage l stage
lister_at l stage event.End = at_stage l stage
lister_at l stage event.Over = at_stage l stage

-- a record's data, or else
abbrev pub by_data : {A : Type 0} → Event → (ℕ → A) → A → A
by_data (event.Data n) a b = a n
by_data event.More a b = b
by_data event.Pass a b = b
by_data event.NoFile a b = b
by_data event.Opened a b = b
by_data event.TooLong a b = b
by_data event.Cut a b = b
by_data event.End a b = b
by_data event.Over a b = b

abbrev pub NoData : Event → Type 0
NoData (event.Data n) = ⊥
NoData event.More = Unit
NoData event.Pass = Unit
NoData event.NoFile = Unit
NoData event.Opened = Unit
NoData event.TooLong = Unit
NoData event.Cut = Unit
NoData event.End = Unit
NoData event.Over = Unit

abbrev pub lines_by : Lister → List ℕ → Event → List (List Word)
lines_by l s e = by_data e (λ n. chunk_lines l.chunks (read_of l s n)) (event_lines l e)

abbrev pub lister_by : Lister → List ℕ → Stage → Event → Lister
lister_by l s stage e = by_data e (λ n. after_chunk l stage (read_of l s n)) (lister_at l stage e)

abbrev pub turn_at : Lister → List ℕ → Bool → Turn
turn_at l s ended = turn_of l.stage s ended

-- what a turn is answered: the lines are put at `at`
pub record Answers (out : List ℕ) (at : ℕ) (l : Lister) (s : List ℕ) (t : Turn) (r : Fed) (after : List ℕ) : Type 0 where
  pub lister : r.lister ≡ lister_by l s t.stage t.event
  pub used : r.used ≡ t.used
  pub wants : r.wants ≡ wants_of t.event
  pub text : Written out at (text_of (lines_by l s t.event)) r.at after

abbrev pub unfed : Lister → ℕ → Fed
unfed l at = record { lister = l; used = 0; at = at; wants = Room }

-- without room nothing is done
abbrev pub Feeds : List ℕ → ℕ → Lister → List ℕ → Bool → Fed → List ℕ → Type 0
Feeds out at l s ended r after = pick_t (has_room (length out) at) (Answers out at l s (turn_at l s ended) r after) ((r ≡ unfed l at) × (after ≡ out))
