-- docs/RULES.md, "Picture choice".
-- Assumes nothing.
use Rattle.std.specs.Prelude.{ℕ, ◌+◌, ◌≡◌, Bool, List, [], take, drop}
use Rattle.std.specs.Borrow.{Bor}
use Rattle.base_shared.specs.Choice.{pick}
use Rattle.base_shared.specs.Lists.{inside}

-- the bytes of that part; none where it lies outside
unfoldable pub part_bytes : List ℕ → ℕ → ℕ → List ℕ
part_bytes s offset size = pick (inside s offset size) (take size (drop offset s)) []

-- where in the chunk the part starts; at 0 where it lies outside
unfoldable pub part_start : List ℕ → ℕ → ℕ → ℕ
part_start s offset size = pick (inside s offset size) offset 0

-- r is that part of the lent chunk s: its bytes, and its place in the chunk's own memory
pub record PartOf (s : Bor (List ℕ)) (offset size : ℕ) (r : Bor (List ℕ)) : Type 0 where
  pub bytes : r.now ≡ part_bytes s.now offset size
  pub place : r.ref_ptr ≡ (s.ref_ptr.0, part_start s.now offset size + s.ref_ptr.1)

-- of the new chunk for yes, of the last good one for no
abbrev pub ChoiceOf : Bor (List ℕ) → Bor (List ℕ) → Bool → ℕ → ℕ → Bor (List ℕ) → Type 0
ChoiceOf new good isNew offset size r = PartOf (pick isNew new good) offset size r
