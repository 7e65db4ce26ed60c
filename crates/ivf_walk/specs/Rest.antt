-- What is still to be said of a whole file where a walk stands at a place of it, and what a turn says.
-- Assumes nothing.
use Rattle.std.specs.Prelude.{ℕ, ◌+◌, ◌≡◌, List, [], ◌∷◌, ltb, length, take, drop}
use Rattle.base_shared.specs.Choice.{pick}
use Rattle.ivf_file.specs.Records.{records_from}
use Rattle.ivf_walk.specs.declared.Stage.{Stage}
use Rattle.ivf_walk.specs.declared.Stage.TheVariants.{Start, Records, Skip, Over}
use Rattle.ivf_walk.specs.declared.Event.{Event}
use Rattle.ivf_walk.specs.declared.Event.TheVariants.{More, Pass, NoFile, Opened, Data, TooLong, Cut, End}
use Rattle.ivf_walk.specs.declared.Event.TheVariants as event
use Rattle.ivf_walk.specs.Said.{Said, no_file, opened, chunk, too_long, cut, end, records_said, file_said}

-- from the record at p on
unfoldable pub said_from : List ℕ → ℕ → List Said
said_from f p = records_said f (records_from (length f) f p)

unfoldable pub rest_said : List ℕ → Stage → ℕ → List Said
rest_said f Start p = file_said f
rest_said f Records p = said_from f p
rest_said f (Skip left) p = pick (ltb (length f) (p + left)) (cut ∷ []) (too_long ∷ said_from f (p + left))
rest_said f Over p = []

-- of s, which is at hand
abbrev pub event_said : List ℕ → Event → List Said
event_said s More = []
event_said s Pass = []
event_said s NoFile = no_file ∷ []
event_said s Opened = opened ∷ []
event_said s (Data n) = chunk (take n (drop 12 s)) ∷ []
event_said s TooLong = too_long ∷ []
event_said s Cut = cut ∷ []
event_said s End = end ∷ []
event_said s event.Over = []

-- a walk starts with the file
abbrev pub FromStart : Stage → ℕ → Type 0
FromStart Start p = p ≡ 0
FromStart Records p = Unit
FromStart (Skip left) p = Unit
FromStart Over p = Unit
