-- docs/RULES.md's numbers for a refused header, the marks, and the names of fields.
-- Assumes nothing.
use Rattle.std.specs.Prelude.{ℕ, List, [], ◌∷◌}
use Prim.Native.String.{String}
use Rattle.base_bits.specs.declared.Refusal.{Refusal}
use Rattle.base_bits.specs.declared.Refusal.TheVariants.{FrameMarker, SyncCode, PastEnd}

-- the two fields that have one right number each
pub data Mark : Type 0 where
  frame_marker : Mark
  sync_code : Mark

-- a field's name in VP9's tables, and which one it is where the tables repeat it
pub record Name : Type 0 where
  pub of : String
  pub nth : List ℕ

abbrev pub the : String → Name
the x = record { of = x; nth = [] }

abbrev pub item : String → ℕ → Name
item x i = record { of = x; nth = i ∷ [] }

-- refusals: docs/RULES.md's number
abbrev pub refusal_number : Refusal → ℕ
refusal_number FrameMarker = 4
refusal_number SyncCode = 5
refusal_number PastEnd = 6

-- reading: the refusal that another number at a mark gets
abbrev pub mark_refusal : Mark → Refusal
mark_refusal frame_marker = FrameMarker
mark_refusal sync_code = SyncCode
