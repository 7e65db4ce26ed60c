-- What docs/RULES.md's table asks of a chunk's bytes for numbers 1 to 3, and what holds of a chunk that is split.
-- Assumes nothing.
use Rattle.std.specs.Prelude.{ℕ, ◌+◌, ◌≤◌, ◌<◌, ◌≡◌, List, length, get_or}
use Rattle.chunk_index.specs.declared.Answer.TheVariants.{Frames}
use Rattle.chunk_index.specs.declared.Split.{Split}
use Rattle.chunk_index.specs.Layout.{Layout, marker, last_byte, index_bytes, index_start, layout_of, frame_end}

-- the chunk has no bytes
abbrev pub NoBytes : List ℕ → Type 0
NoBytes s = length s ≡ 0

-- last byte starts with bits 110 (marker 6, by proofs/LastByte.antt) and the chunk is shorter than the index it
-- announces
abbrev pub Cut : List ℕ → Type 0
Cut s = (marker (last_byte s) ≡ 6) × (length s < index_bytes (last_byte s))

-- no frame's end lies past the room for frames
abbrev pub NonePast : Layout → Type 0
NonePast l = (i : ℕ) → i < l.frames → frame_end l i ≤ l.room

-- frame i is the first whose end does
pub record FirstPast (l : Layout) (i : ℕ) : Type 0 where
  pub among : i < l.frames
  pub earlier : (j : ℕ) → j < i → frame_end l j ≤ l.room
  pub past : l.room < frame_end l i

-- none of the three holds
abbrev pub AllFit : List ℕ → Type 0
AllFit s = (NoBytes s → ⊥) × (Cut s → ⊥) × NonePast (layout_of s)

-- the chunk has an index: the first byte of the one that the last byte announces equals it
abbrev pub Indexed : List ℕ → Type 0
Indexed s = (marker (last_byte s) ≡ 6) × (get_or s (index_start s) 0 ≡ last_byte s)

-- r holds the frames of l, which tile the room from 0
pub record Tiles (l : Layout) (r : Split) : Type 0 where
  pub count : r.answer ≡ Frames l.frames
  pub sizes : (i : ℕ) → i < l.frames → get_or r.size i 0 ≡ l.size i
  pub origin : get_or r.at 0 0 ≡ 0
  pub next : (i : ℕ) → i + 1 < l.frames → get_or r.at (i + 1) 0 ≡ get_or r.at i 0 + get_or r.size i 0
  pub within : (i : ℕ) → i < l.frames → get_or r.at i 0 + get_or r.size i 0 ≤ l.room
  -- eight places, those past the last frame being 0
  pub eight : (length r.at ≡ 8) × (length r.size ≡ 8)
  pub rest : (i : ℕ) → l.frames ≤ i → (get_or r.at i 0 ≡ 0) × (get_or r.size i 0 ≡ 0)
