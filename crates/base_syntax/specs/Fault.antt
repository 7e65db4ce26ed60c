-- The field at which a spelling stops, and why.
-- Assumes nothing.
use Rattle.std.specs.Prelude.{ℕ, ◌+◌, ◌<◌, ◌^◌, ◌≡◌, List, ◌∷◌, ◌++◌, length}
use Rattle.base_bits.specs.Bit.{spell, bits_of, Begins, reach, Stands, missing}
use Rattle.base_bits.specs.Refusal.{Mark, mark_refusal, Name}
use Rattle.base_syntax.specs.Syntax.{Field, only, flat, size, Ranged}
use Rattle.base_bits.specs.declared.Refusal.{Refusal}
use Rattle.base_bits.specs.declared.Refusal.TheVariants.{PastEnd}

-- refusals: of the fields fs, the bits of s begin with some that are well spelled, and the next one, after their
-- bits, has F
pub record StopsIn (s : List ℕ) (fs : List Field) (F : List ℕ → Field → Type 0) : Type 0 where
  pub before : List Field
  pub at : Field
  pub after : List Field
  pub split : fs ≡ before ++ (at ∷ after)
  pub ranged : Ranged before
  pub begins : Begins s (flat before)
  pub fault : F (flat before) at

-- docs/RULES.md's number 6: the field f, after the bits l, has bits past the last one of s
abbrev pub PastLast : List ℕ → List ℕ → Field → Type 0
PastLast s l f = length (bits_of s) < length l + f.width

-- its numbers 4 and 5: it is the mark k, and stands in full with another number than the one demanded
pub record OtherNumber (s : List ℕ) (k : Mark) (l : List ℕ) (f : Field) : Type 0 where
  pub found : ℕ
  pub expected : ℕ
  pub demanded : f.demand ≡ only expected k
  pub range : found < 2 ^ f.width
  pub begins : Begins s (l ++ spell f.width found)
  pub differs : found ≡ expected → ⊥

-- reading: the same by places. The fields are well spelled at p of s: in range, as demanded, and their bits stand there
pub record Fits (s : List ℕ) (p : ℕ) (fs : List Field) : Type 0 where
  pub ranged : Ranged fs
  pub stands : Stands s p (flat fs)

-- of the fields fs from p on, some are well spelled, and the next one, at the place past them, has F
pub record StopsAt (s : List ℕ) (p : ℕ) (fs : List Field) (F : ℕ → Field → Type 0) : Type 0 where
  pub before : List Field
  pub at : Field
  pub after : List Field
  pub split : fs ≡ before ++ (at ∷ after)
  pub well : Fits s p before
  pub fault : F (p + size before) at

-- the field f at q has bits past the end
pub record Over (s : List ℕ) (q : ℕ) (f : Field) : Type 0 where
  pub some : 0 < f.width
  pub past : reach s < q + f.width

-- it is the mark k, and stands in full with another number than the one demanded
pub record Other (s : List ℕ) (k : Mark) (q : ℕ) (f : Field) : Type 0 where
  pub found : ℕ
  pub expected : ℕ
  pub demanded : f.demand ≡ only expected k
  pub range : found < 2 ^ f.width
  pub stands : Stands s q (spell f.width found)
  pub differs : found ≡ expected → ⊥

-- docs/RULES.md's 6, and its 4 and 5, by places
abbrev pub CutOff : List ℕ → ℕ → List Field → Type 0
CutOff s p fs = StopsAt s p fs (Over s)

abbrev pub Unmarked : List ℕ → ℕ → List Field → Mark → Type 0
Unmarked s p fs k = StopsAt s p fs (Other s k)

-- why it refused, with the field at fault, its first bit, and what was wrong with it
pub record Reason : Type 0 where
  pub refusal : Refusal
  pub name : Name
  pub first : ℕ
  pub missing : ℕ
  pub found : ℕ
  pub expected : ℕ

-- the field x of n bits at p runs past the end
abbrev pub cut_at : Name → ℕ → List ℕ → ℕ → Reason
cut_at x n s p = record { refusal = PastEnd; name = x; first = p; missing = missing s p n; found = 0; expected = 0 }

-- the field x at p, a mark, has the number n, and m is demanded
abbrev pub wrong_at : Mark → Name → ℕ → ℕ → ℕ → Reason
wrong_at k x p n m = record { refusal = mark_refusal k; name = x; first = p; missing = 0; found = n; expected = m }

-- the field f at p is at fault, for the reason w
pub data Fault (s : List ℕ) (w : Reason) (p : ℕ) (f : Field) : Type 0 where
  cut : Over s p f → w ≡ cut_at f.name f.width s p → Fault s w p f
  wrong : (k : Mark) (o : Other s k p f) → w ≡ wrong_at k f.name p o.found o.expected → Fault s w p f

-- the spelling fs from p on stops for the reason w
abbrev pub Stops : List ℕ → ℕ → List Field → Reason → Type 0
Stops s p fs w = StopsAt s p fs (Fault s w)
