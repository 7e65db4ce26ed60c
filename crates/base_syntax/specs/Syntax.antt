-- Fields with a name, a width and a number, and the bits that they spell.
-- Assumes nothing.
use Rattle.std.specs.Prelude.{ℕ, ◌+◌, ◌<◌, ◌^◌, ◌≡◌, Bool, List, [], ◌∷◌, ◌++◌, eqb}
use Rattle.base_bits.specs.Bit.{spell}
use Rattle.base_bits.specs.Refusal.{Mark, Name}
use Rattle.base_shared.specs.Choice.{pick}

-- what a field's number must be: anything that its width holds, or the one right number of a mark
pub data Demand : Type 0 where
  anything : Demand
  only : ℕ → Mark → Demand

pub record Field : Type 0 where
  pub name : Name
  pub width : ℕ
  pub demand : Demand
  pub number : ℕ

-- the field x of w bits, with the number n
abbrev pub fld : Name → ℕ → ℕ → Field
fld x w n = record { name = x; width = w; demand = anything; number = n }

-- the same, whose number must be m
abbrev pub fixed : Name → ℕ → ℕ → Mark → ℕ → Field
fixed x w m k n = record { name = x; width = w; demand = only m k; number = n }

-- a bit that is set
abbrev pub flag : ℕ → Bool
flag n = eqb n 1

-- fields, and then others
infixr 67 ◌then◌
abbrev pub ◌then◌ : List Field → List Field → List Field
fs then gs = fs ++ gs

-- the same fields without bits: no number but 0 is in range
abbrev pub bare : List Field → List Field
bare [] = []
bare (f ∷ fs) = fld f.name 0 f.number ∷ bare fs

-- a field, and fields, that are there only if b holds
abbrev pub fld_if : Bool → Name → ℕ → ℕ → Field
fld_if b x w n = fld x (pick b w 0) n

abbrev pub optional : Bool → List Field → List Field
optional b fs = pick b fs (bare fs)

abbrev pub Meets : Demand → ℕ → Type 0
Meets anything n = Unit
Meets (only m k) n = n ≡ m

-- the bits of the fields, in order
abbrev pub flat : List Field → List ℕ
flat [] = []
flat (f ∷ fs) = spell f.width f.number ++ flat fs

-- each number is in its field's range and is the one demanded
abbrev pub Ranged : List Field → Type 0
Ranged [] = Unit
Ranged (f ∷ fs) = ((f.number < 2 ^ f.width) × Meets f.demand f.number) × Ranged fs

-- reading: how many bits the fields have
abbrev pub size : List Field → ℕ
size [] = 0
size (f ∷ fs) = f.width + size fs
