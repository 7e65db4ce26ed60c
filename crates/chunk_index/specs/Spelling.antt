-- A superframe index from its values to its bytes: superframe_index() of VP9's Annex B.
-- Assumes nothing.
use Rattle.std.specs.Prelude.{ℕ, ◌+◌, ◌-◌, ◌*◌, ◌^◌, ◌≤◌, ◌<◌, ◌≡◌, List, [], ◌∷◌, ◌++◌, length, get_or}
use Rattle.chunk_index.specs.Layout.{Layout}
use Rattle.base_little.specs.Little.{spell_little}

-- bytes_per_framesize_minus_1, and the frame_sizes, which are frames_in_superframe_minus_1 + 1
pub record IndexValues : Type 0 where
  pub bytes_minus_1 : ℕ
  pub sizes : List ℕ

unfoldable pub spell_sizes : ℕ → List ℕ → List ℕ
spell_sizes n [] = []
spell_sizes n (z ∷ zs) = spell_little n z ++ spell_sizes n zs

-- superframe_header(): 3 bits superframe_marker, which is 6, 2 bits and 3 bits
abbrev pub header_byte : IndexValues → ℕ
header_byte v = 6 * 32 + v.bytes_minus_1 * 8 + (length v.sizes - 1)

unfoldable pub spell_index : IndexValues → List ℕ
spell_index v = header_byte v ∷ (spell_sizes (v.bytes_minus_1 + 1) v.sizes ++ (header_byte v ∷ []))

-- each number of a list is below m
abbrev pub Below : ℕ → List ℕ → Type 0
Below m [] = Unit
Below m (z ∷ zs) = (z < m) × Below m zs

pub record IndexRanged (v : IndexValues) : Type 0 where
  pub bytes : v.bytes_minus_1 < 4
  pub some : 0 < length v.sizes
  pub most : length v.sizes ≤ 8
  pub sizes : Below (256 ^ (v.bytes_minus_1 + 1)) v.sizes

-- the layout of a room of so many bytes and of those values
pub record LaidBy (room : ℕ) (v : IndexValues) (l : Layout) : Type 0 where
  pub same_room : l.room ≡ room
  pub same_frames : l.frames ≡ length v.sizes
  pub same_sizes : (i : ℕ) → i < length v.sizes → l.size i ≡ get_or v.sizes i 0
