-- What is said of a part of a file holds of the file.
-- Assumes nothing.
use Prim.Native.Nat.{ℕ, ◌+◌, ◌-◌, ◌≤◌, ◌<◌}
use mathlib.Core.Path.{◌≡◌, refl, sym, ◌∙◌}
use mathlib.Core.Logic.{◌⊎◌, ◌↔◌, inl, inr, ⊎_elim}
use mathlib.Core.Bool.{Bool, true, false}
use mathlib.Core.List.{List}
use native.Mathlib.Nat.{add-zero}
use native.Mathlib.Omega.{arith}
use lib.Dec.{eqb}
use lib.ListN.{length, take, drop, length-drop}
use lib.Seq.{take_all, length-take-le}
use borrow.Author.Tests.{eqb-true, eqb-false, le-leb, lt-leb, lt-ltb, le-ltb}
use Rattle.base_shared.specs.Choice.{pick}
use Rattle.base_shared.proofs.Order.{below}
use Rattle.base_little.specs.Little.{little}
use Rattle.std.specs.Prelude.{Err}
use Rattle.ivf_file.specs.Record.{data_length, data_end, record_at, cut_short}
use Rattle.ivf_file.specs.Table.{RecordWhen}
use Rattle.ivf_file.proofs.Cases.{at_end, cut, whole}
use Rattle.ivf_file.proofs.Part.{little_part}
use Rattle.ivf_arriving.specs.declared.Next.{Next}
use Rattle.ivf_arriving.specs.declared.Next.TheVariants.{End, More, Cut, Data, Long}
use Rattle.ivf_arriving.specs.Next.{next_record, next_number}
use Rattle.ivf_arriving.specs.Whole.{next_at, Right, TooFew, TooMuch}
use Rattle.ivf_arriving.proofs.Cases.{none_there, header_cut, too_long_lem, data_cut, data_there}

-- an answer that only the file's end allows, and one that nothing changes
by_end : {answer right : Next} (ended : Bool) (a : Next) → pick ended a More ≡ answer → (ended ≡ true → a ≡ right) → Right ended answer right
by_end true a e h = sym e ∙ h refl
by_end false a e h = inl (sym e)

for_good : {answer right a : Next} (ended : Bool) → a ≡ answer → a ≡ right → Right ended answer right
for_good true e h = sym e ∙ h
for_good false e h = inr (sym e ∙ h)

-- what stands at a place, by cases
module _ (f : List ℕ) (p : ℕ) where
  end_stands : p ≡ length f → End ≡ next_at f p
  unfolding next_at
  end_stands h = rw (lt-leb (p + 12) (length f) (omega arith), ← at_end f p h)

  header_cut_stands : (p ≡ length f → ⊥) → length f < p + 12 → Cut ≡ next_at f p
  unfolding next_at
  header_cut_stands n h = rw (lt-leb (p + 12) (length f) h, ← cut f p n (omega arith))

  module _ (h : p + 12 ≤ length f) where
    long_stands : 65536 < data_length f p → Long (data_length f p) ≡ next_at f p
    unfolding next_at
    long_stands l = rw (le-leb (p + 12) (length f) h, lt-ltb 65536 (data_length f p) l)

    module _ (l : data_length f p ≤ 65536) where
      cut_stands : length f < data_end f p → Cut ≡ next_at f p
      unfolding next_at
      cut_stands k = rw (le-leb (p + 12) (length f) h, le-ltb 65536 (data_length f p) l, ← cut f p (λ e. omega arith) k)

      data_stands : data_end f p ≤ length f → Data (data_length f p) ≡ next_at f p
      unfolding next_at record_at
      data_stands k = rw (le-leb (p + 12) (length f) h, le-ltb 65536 (data_length f p) l, ← whole f p (λ e. omega arith) k)

-- an answer that is given isn't another one
long_not_more : {n : ℕ} {r : Next} → Long n ≡ r → r ≡ More → ⊥
long_not_more h k = let z : ◌≡◌ {A = ℕ} 0 1 = cc in omega arith

data_not_more : {n : ℕ} {r : Next} → Data n ≡ r → r ≡ More → ⊥
data_not_more h k = let z : ◌≡◌ {A = ℕ} 0 1 = cc in omega arith

-- how much of the record at p stands before e
data Stands (f : List ℕ) (p e : ℕ) : Type 0 where
  nothing : p ≡ e → Stands f p e
  header_part : (p ≡ e → ⊥) → e < p + 12 → Stands f p e
  long : p + 12 ≤ e → 65536 < data_length f p → Stands f p e
  data_part : p + 12 ≤ e → data_length f p ≤ 65536 → e < data_end f p → Stands f p e
  all : data_length f p ≤ 65536 → data_end f p ≤ e → Stands f p e

stands : (f : List ℕ) (p e : ℕ) → Stands f p e
stands f p e = go (eqb p e) refl (below e (p + 12)) (below 65536 (data_length f p)) (below e (data_end f p))
  where
    go : (a : Bool) → eqb p e ≡ a → (e < p + 12) ⊎ (p + 12 ≤ e) → (65536 < data_length f p) ⊎ (data_length f p ≤ 65536) → (e < data_end f p) ⊎ (data_end f p ≤ e) → Stands f p e
    go true k h l c = nothing (eqb-true p e k)
    go false k (inl h) l c = header_part (eqb-false p e k) h
    go false k (inr h) (inl l) c = long h l
    go false k (inr h) (inr l) (inl c) = data_part h l c
    go false k (inr h) (inr l) (inr c) = all l c

-- m bytes of a file are at hand from p on
module _ (f : List ℕ) (p m : ℕ) (inside : p + m ≤ length f) where
  size : length (take m (drop p f)) ≡ m
  size = length-take-le m (drop p f) (rw length-drop (omega arith))

  length_there : 12 ≤ m → data_length f p ≡ little (take m (drop p f)) 0 4
  length_there h = sym (rw add-zero at (little_part f p m 0 4 (omega arith)))

  module _ (ended : Bool) where
    abbrev answer : Next
    answer = next_record (take m (drop p f)) ended

    nothing_at_hand : p ≡ p + m → pick ended End More ≡ answer
    nothing_at_hand z = none_there _ ended (omega (arith, size))

    header_at_hand : (p ≡ p + m → ⊥) → p + m < p + 12 → pick ended Cut More ≡ answer
    header_at_hand n h = header_cut _ ended (λ z. n (omega (arith, size))) (omega (arith, size))

    module _ (h : p + 12 ≤ p + m) where
      there : data_length f p ≡ little (take m (drop p f)) 0 4
      there = length_there (omega arith)

      long_at_hand : 65536 < data_length f p → Long (data_length f p) ≡ answer
      long_at_hand l = too_long_lem _ ended _ there (omega (arith, size)) l

      part_at_hand : data_length f p ≤ 65536 → p + m < data_end f p → pick ended Cut More ≡ answer
      part_at_hand l c = data_cut _ ended _ there (omega (arith, size)) l (omega (arith, size))

      data_at_hand : data_length f p ≤ 65536 → data_end f p ≤ p + m → Data (data_length f p) ≡ answer
      data_at_hand l c = data_there _ ended _ there (omega (arith, size)) l (omega (arith, size))

  pub at_hand : (ended : Bool) → (ended ≡ true → p + m ≡ length f) → Right ended (next_record (take m (drop p f)) ended) (next_at f p)
  at_hand ended end = go (stands f p (p + m))
    where
      go : Stands f p (p + m) → Right ended (next_record (take m (drop p f)) ended) (next_at f p)
      go (nothing z) = by_end ended End (nothing_at_hand ended z) (λ t. end_stands f p (omega (arith, end t)))
      go (header_part n h) = by_end ended Cut (header_at_hand ended n h) (λ t. header_cut_stands f p (λ z. n (omega (arith, end t))) (omega (arith, end t)))
      go (long h l) = for_good ended (long_at_hand ended h l) (long_stands f p (omega arith) l)
      go (data_part h l c) = by_end ended Cut (part_at_hand ended h l c) (λ t. cut_stands f p (omega arith) l (omega (arith, end t)))
      go (all l c) = for_good ended (data_at_hand ended (omega arith) l c) (data_stands f p (omega arith) l (omega arith))

  abbrev Asks : Type 0
  Asks = next_record (take m (drop p f)) false ≡ More

  abbrev Asked : Type 0
  Asked = (Asks × TooFew f p m) ⊎ ((Asks → ⊥) × (TooFew f p m → ⊥))

  asked : Asked
  asked = go (stands f p (p + m))
    where
      go : Stands f p (p + m) → Asked
      go (nothing z) = inl (sym (nothing_at_hand false z), inl (omega arith))
      go (header_part n h) = inl (sym (header_at_hand false n h), inl (omega arith))
      go (long h l) = inr (long_not_more (long_at_hand false h l), ⊎_elim (λ t. omega arith) (λ t. omega (arith, t.0)))
      go (data_part h l c) = inl (sym (part_at_hand false h l c), inr (l, omega arith))
      go (all l c) = inr (data_not_more (data_at_hand false (omega arith) l c), ⊎_elim (λ t. omega arith) (λ t. omega (arith, t.1)))

  -- more is asked for exactly while too little is at hand
  pub asks_only : (next_record (take m (drop p f)) false ≡ More) ↔ TooFew f p m
  asks_only = (λ e. ⊎_elim (λ x. x.1) (λ x. absurd (x.0 e)) asked, λ t. ⊎_elim (λ x. x.0) (λ x. absurd (x.1 t)) asked)

-- all of a file from p on is at hand
pub all_at_hand : (f : List ℕ) (p : ℕ) → p ≤ length f → next_record (drop p f) true ≡ next_at f p
all_at_hand f p h = rw (take_all (length f - p) (drop p f) (rw length-drop (omega arith))) at (at_hand f p (length f - p) (omega arith) true (λ t. omega arith))

-- docs/RULES.md's table by number: 8 and 9 each exactly when its line says so, where the whole file is known
module _ (f : List ℕ) (p : ℕ) where
  abbrev number : ℕ
  number = next_number (cut_short f p) (next_at f p)

  abbrev Numbered : Type 0
  Numbered = ((number ≡ 8) × RecordWhen (Err (record {})) f p) ⊎ (((number ≡ 9) × TooMuch f p) ⊎ ((number ≡ 0) × (RecordWhen (Err (record {})) f p → ⊥) × (TooMuch f p → ⊥)))

  numbered : Numbered
  unfolding cut_short
  numbered = go (stands f p (length f))
    where
      go : Stands f p (length f) → Numbered
      go (nothing z) = inr (inr (rw (← end_stands f p z), λ x. x.0 z, λ x. x.0 (inl (omega arith))))
      go (header_part n h) = inl (rw (← header_cut_stands f p n h), (n, inl h))
      go (long h l) =
          ⊎_elim
          (λ c. inl (rw (← long_stands f p h l, lt-ltb (length f) (data_end f p) c), (λ z. omega arith, inr c)))
          (λ c. inr (inl (rw (← long_stands f p h l, le-ltb (length f) (data_end f p) c), (⊎_elim (λ x. omega arith) (λ x. omega arith), l))))
          (below (length f) (data_end f p))
      go (data_part h l c) = inl (rw (← cut_stands f p h l c), (λ z. omega arith, inr c))
      go (all l c) = inr (inr (rw (← data_stands f p (omega arith) l c), λ x. ⊎_elim (λ t. omega arith) (λ t. omega arith) x.1, λ x. omega (arith, x.1)))

  pub next_8 : (number ≡ 8) ↔ RecordWhen (Err (record {})) f p
  next_8 = (
    λ e. ⊎_elim (λ x. x.1) (⊎_elim (λ x. absurd (omega (arith, x.0))) (λ x. absurd (omega (arith, x.0)))) numbered,
    λ h. ⊎_elim (λ x. x.0) (⊎_elim (λ x. absurd (x.1.0 h.1)) (λ x. absurd (x.1 h))) numbered,
  )

  pub next_9 : (number ≡ 9) ↔ TooMuch f p
  next_9 = (
    λ e. ⊎_elim (λ x. absurd (omega (arith, x.0))) (⊎_elim (λ x. x.1) (λ x. absurd (omega (arith, x.0)))) numbered,
    λ h. ⊎_elim (λ x. absurd (h.0 x.1.1)) (⊎_elim (λ x. x.0) (λ x. absurd (x.2 h))) numbered,
  )

  pub next_0 : (number ≡ 0) ↔ ((RecordWhen (Err (record {})) f p → ⊥) × (TooMuch f p → ⊥))
  next_0 = (
    λ e. ⊎_elim (λ x. absurd (omega (arith, x.0))) (⊎_elim (λ x. absurd (omega (arith, x.0))) (λ x. (x.1, x.2))) numbered,
    λ h. ⊎_elim (λ x. absurd (h.0 x.1)) (⊎_elim (λ x. absurd (h.1 x.1)) (λ x. x.0)) numbered,
  )
