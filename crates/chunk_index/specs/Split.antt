-- What splitting a chunk answers.
-- Assumes nothing.
use Rattle.std.specs.Prelude.{ℕ, zero, suc, List, eqb, ltb, length, set, replicate}
use Rattle.base_shared.specs.Choice.{pick}
use Rattle.chunk_index.specs.declared.Answer.{Answer}
use Rattle.chunk_index.specs.declared.Answer.TheVariants.{Frames, Empty, Short, Past}
use Rattle.chunk_index.specs.declared.Split.{Split}
use Rattle.chunk_index.specs.Layout.{Layout, cut, layout_of, start, frame_end}
use Rattle.base_shared.specs.Lists.{first}

-- docs/RULES.md's number, 0 for a chunk that is split
abbrev pub split_number : Answer → ℕ
split_number (Frames n) = 0
split_number Empty = 1
split_number Short = 2
split_number (Past i) = 3

-- and the frame number that comes with it
abbrev pub split_frame : Answer → ℕ
split_frame (Frames n) = 0
split_frame Empty = 0
split_frame Short = 0
split_frame (Past i) = i

-- a refusal: no places
abbrev pub refused_split : Answer → Split
refused_split a = record { answer = a; at = replicate 8 0; size = replicate 8 0 }

-- eight entries, the first n of which are f's, and the others d
unfoldable pub filled : {A : Type 0} → A → (ℕ → A) → ℕ → List A
filled d f zero = replicate 8 d
filled d f (suc n) = set (filled d f n) n (f n)

-- a chunk that is split: the frames' places
abbrev pub places : Layout → Split
places l = record { answer = Frames l.frames; at = filled 0 (start l.size) l.frames; size = filled 0 l.size l.frames }

-- the code's answer: the first frame that ends past the room, or the number of frames
unfoldable pub first_past : Layout → ℕ
first_past l = first (λ i. ltb l.room (frame_end l i)) 0 l.frames

-- a frame that ends past the room is refused; else the frames' places
unfoldable pub placed : Layout → Split
placed l = pick (ltb (first_past l) l.frames) (refused_split (Past (first_past l))) (places l)

-- docs/RULES.md's order: 1, 2, then 3
unfoldable pub split_of : List ℕ → Split
split_of s = pick (eqb (length s) 0) (refused_split Empty) (pick (cut s) (refused_split Short) (placed (layout_of s)))
