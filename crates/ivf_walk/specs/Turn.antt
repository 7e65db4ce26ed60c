-- One turn of a walk through a file, of which s is at hand.
-- Assumes nothing.
use Rattle.std.specs.Prelude.{ℕ, ◌+◌, ◌-◌, Bool, not, ◌&&◌, Result, Ok, Err, List, leb, ltb, length}
use Rattle.base_shared.specs.Choice.{pick}
use Rattle.ivf_file.specs.declared.IvfHeader.{IvfHeader}
use Rattle.ivf_file.specs.declared.NotIvf.{NotIvf}
use Rattle.ivf_file.specs.File.{header_bytes, file_of}
use Rattle.ivf_arriving.specs.declared.Next.{Next}
use Rattle.ivf_arriving.specs.declared.Next.TheVariants as next
use Rattle.ivf_arriving.specs.Next.{next_record}
use Rattle.ivf_walk.specs.declared.Stage.{Stage}
use Rattle.ivf_walk.specs.declared.Stage.TheVariants.{Start, Records, Skip, Over}
use Rattle.ivf_walk.specs.declared.Event.{Event}
use Rattle.ivf_walk.specs.declared.Event.TheVariants.{More, Pass, NoFile, Opened, Data, TooLong, Cut, End}
use Rattle.ivf_walk.specs.declared.Event.TheVariants as event
use Rattle.ivf_walk.specs.declared.Turn.{Turn}

abbrev pub takes : Event → ℕ → Stage → Turn
takes event used stage = record { event = event; used = used; stage = stage }

abbrev pub file_turn : Result IvfHeader NotIvf → Turn
file_turn (Ok h) = takes Opened header_bytes Records
file_turn (Err e) = takes NoFile 0 Over

unfoldable pub start_turn : List ℕ → Bool → Turn
start_turn s ended = pick (ltb (length s) header_bytes && not ended) (takes More 0 Start) (file_turn (file_of s))

-- a record's header takes 12 bytes
abbrev pub turn_by : Next → Turn
turn_by next.End = takes End 0 Over
turn_by next.More = takes More 0 Records
turn_by next.Cut = takes Cut 0 Over
turn_by (next.Data n) = takes (Data n) (12 + n) Records
turn_by (next.Long n) = takes Pass 12 (Skip n)

abbrev pub record_turn : List ℕ → Bool → Turn
record_turn s ended = turn_by (next_record s ended)

-- as much of the data as is at hand is passed
unfoldable pub skip_turn : ℕ → List ℕ → Bool → Turn
skip_turn left s ended = pick (leb left (length s)) (takes TooLong left Records) (pick ended (takes Cut (length s) Over) (takes More (length s) (Skip (left - length s))))

abbrev pub turn_of : Stage → List ℕ → Bool → Turn
turn_of Start s ended = start_turn s ended
turn_of Records s ended = record_turn s ended
turn_of (Skip left) s ended = skip_turn left s ended
turn_of Over s ended = takes event.Over 0 Over
