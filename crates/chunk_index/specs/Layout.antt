-- Where the frames of a chunk lie: VP9's Annex B and docs/RULES.md, "Superframe index".
-- Assumes nothing.
use Rattle.std.specs.Prelude.{ℕ, zero, suc, ◌+◌, ◌-◌, ◌*◌, ◌/◌, ◌%◌, Bool, ◌&&◌, List, eqb, ltb, length, get_or}
use Rattle.base_shared.specs.Choice.{pick}
use Rattle.base_little.specs.Little.{little}

-- superframe_header(), a byte: superframe_marker f(3), bytes_per_framesize_minus_1 f(2), frames_in_superframe_minus_1
-- f(3)
abbrev pub marker : ℕ → ℕ
marker b = b / 32

abbrev pub bytes_per_size : ℕ → ℕ
bytes_per_size b = b / 8 % 4 + 1

abbrev pub frames_in : ℕ → ℕ
frames_in b = b % 8 + 1

-- superframe_index(): that byte, a size for each frame, and that byte again
abbrev pub index_bytes : ℕ → ℕ
index_bytes b = 2 + frames_in b * bytes_per_size b

abbrev pub last_byte : List ℕ → ℕ
last_byte s = get_or s (length s - 1) 0

-- where the index starts that the last byte announces
abbrev pub index_start : List ℕ → ℕ
index_start s = length s - index_bytes (last_byte s)

-- the last byte announces an index
unfoldable pub announced : List ℕ → Bool
announced s = eqb (marker (last_byte s)) 6

-- which is longer than the chunk
unfoldable pub cut : List ℕ → Bool
cut s = announced s && ltb (length s) (index_bytes (last_byte s))

-- which is there, since its first byte is the last byte too
unfoldable pub indexed : List ℕ → Bool
indexed s = announced s && eqb (get_or s (index_start s) 0) (last_byte s)

-- the room for frames, how many there are, and the size of frame i
pub record Layout : Type 0 where
  pub room : ℕ
  pub frames : ℕ
  pub size : ℕ → ℕ

-- by sizes of n bytes, low byte first, from `first` on
abbrev pub laid : List ℕ → ℕ → ℕ → ℕ → ℕ → Layout
laid s room frames first n = record { room = room; frames = frames; size = λ i. little s (first + i * n) n }

-- one frame, the whole chunk
abbrev pub whole : List ℕ → Layout
whole s = record { room = length s; frames = 1; size = λ i. length s }

-- by the index, behind whose first byte the sizes stand
abbrev pub by_index : List ℕ → Layout
by_index s = laid s (index_start s) (frames_in (last_byte s)) (index_start s + 1) (bytes_per_size (last_byte s))

unfoldable pub layout_of : List ℕ → Layout
layout_of s = pick (indexed s) (by_index s) (whole s)

-- frames lie end to end from 0: where frame i starts, and ends
unfoldable pub start : (ℕ → ℕ) → ℕ → ℕ
start size zero = 0
start size (suc i) = start size i + size i

abbrev pub frame_end : Layout → ℕ → ℕ
frame_end l i = start l.size i + l.size i
