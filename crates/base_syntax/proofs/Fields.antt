-- Lists of fields: where they stand, and where they stop.
-- Assumes nothing.
use Prim.Native.Nat.{ℕ, ◌+◌, ◌≤◌, ◌<◌, ◌^◌}
use mathlib.Core.Path.{◌≡◌, refl, ap}
use mathlib.Core.Logic.{◌⊎◌, inl, inr}
use mathlib.Core.Bool.{Bool, true, false, ◌&&◌}
use mathlib.Core.List.{List, [], ◌∷◌, ◌++◌, append_assoc}
use native.Mathlib.Nat.{add-zero, zero-add, add_assoc}
use native.Mathlib.Omega.{arith}
use lib.Dec.{eqb}
use lib.ListN.{length, length-append}
use lib.Pow.{pow_pos}
use borrow.Author.Tests.{eqb-true}
use Rattle.base_bits.specs.Bit.{Stands, spell}
use Rattle.base_shared.specs.Choice.{pick}
use Rattle.base_syntax.specs.Syntax.{Field, fld, bare, optional, flat, size, Ranged}
use Rattle.base_syntax.specs.Fault.{Fits, Reason, Fault, cut, wrong, Stops}
use Rattle.base_syntax.specs.Reader.{Read, read, stopped}
use Rattle.base_syntax.specs.Law.{Past}
use Rattle.base_bits.proofs.Stand.{stands_join, stands_left, stands_right, length_spell}

pub flat_append : (fs gs : List Field) → flat (fs ++ gs) ≡ flat fs ++ flat gs
flat_append [] gs = refl
flat_append (f ∷ fs) gs = rw (flat_append fs gs, append_assoc)

pub size_append : (fs gs : List Field) → size (fs ++ gs) ≡ size fs + size gs
size_append [] gs = rw zero-add
size_append (f ∷ fs) gs = rw (size_append fs gs, add_assoc)

-- of fields that aren't there
pub bare_size : (fs : List Field) → size (bare fs) ≡ 0
bare_size [] = refl
bare_size (f ∷ fs) = rw (bare_size fs)

bare_flat : (fs : List Field) → flat (bare fs) ≡ []
unfolding spell
bare_flat [] = refl
bare_flat (f ∷ fs) = bare_flat fs

pub bare_append : (fs gs : List Field) → bare (fs ++ gs) ≡ bare fs ++ bare gs
bare_append [] gs = refl
bare_append (f ∷ fs) gs = rw (bare_append fs gs)

pub bare_twice : (fs : List Field) → bare (bare fs) ≡ bare fs
bare_twice [] = refl
bare_twice (f ∷ fs) = rw (bare_twice fs)

pub optional_size : (b : Bool) (fs : List Field) → size (optional b fs) ≤ size fs
optional_size true fs = omega arith
optional_size false fs = omega (arith, bare_size fs)

pub size_optional : (b : Bool) (fs : List Field) (n : ℕ) → size fs ≤ n → size (optional b fs) ≤ n
size_optional b fs n h = omega (arith, optional_size b fs)

pub size_if : (b : Bool) (w : ℕ) → pick b w 0 ≤ w
size_if true w = omega arith
size_if false w = omega arith

pub length_flat : (fs : List Field) → length (flat fs) ≡ size fs
length_flat [] = refl
length_flat (f ∷ fs) = simp (length-append, length_spell, length_flat fs)

pub ranged_join : (fs gs : List Field) → Ranged fs → Ranged gs → Ranged (fs ++ gs)
ranged_join [] gs h k = k
ranged_join (f ∷ fs) gs h k = (h.0, ranged_join fs gs h.1 k)

pub ranged_left : (fs gs : List Field) → Ranged (fs ++ gs) → Ranged fs
ranged_left [] gs h = tt
ranged_left (f ∷ fs) gs h = (h.0, ranged_left fs gs h.1)

pub ranged_right : (fs gs : List Field) → Ranged (fs ++ gs) → Ranged gs
ranged_right [] gs h = h
ranged_right (f ∷ fs) gs h = ranged_right fs gs h.1

-- of fields that are all 0, put together as the spelling is
-- fields whose numbers are all 0 are in range without their bits
abbrev pub zeros : List Field → Bool
zeros [] = true
zeros (f ∷ fs) = eqb f.number 0 && zeros fs

pub all_zero : (fs : List Field) → zeros fs ≡ true → Ranged (bare fs)
all_zero [] h = tt
all_zero (f ∷ fs) h = go (eqb f.number 0) refl h (all_zero fs)
  where
    go : (b : Bool) → eqb f.number 0 ≡ b → b && zeros fs ≡ true → (zeros fs ≡ true → Ranged (bare fs)) → Ranged (bare (f ∷ fs))
    go true e h rest = ((omega (arith, eqb-true f.number 0 e), tt), rest h)
    go false e h rest = let z : ◌≡◌ {A = ℕ} 0 1 = cc in absurd (omega arith)

pub zeros_join : (fs gs : List Field) → zeros fs ≡ true → zeros gs ≡ true → zeros (fs ++ gs) ≡ true
zeros_join [] gs h k = k
zeros_join (f ∷ fs) gs h k = go (eqb f.number 0) h (zeros_join fs gs)
  where
    go : (b : Bool) → b && zeros fs ≡ true → (zeros fs ≡ true → zeros gs ≡ true → zeros (fs ++ gs) ≡ true) → b && zeros (fs ++ gs) ≡ true
    go true h rest = rest h k
    go false h rest = h

-- each number is below 2 to its field's width, whatever is demanded of it
abbrev pub Within : List Field → Type 0
Within [] = Unit
Within (f ∷ fs) = (f.number < 2 ^ f.width) × Within fs

pub ranged_within : (fs : List Field) → Ranged fs → Within fs
ranged_within [] h = tt
ranged_within (f ∷ fs) h = (h.0.0, ranged_within fs h.1)

pub bare_within : (fs : List Field) → Ranged (bare fs) → Within fs
bare_within [] h = tt
bare_within (f ∷ fs) h = (omega (arith, h.0.0, pow_pos f.width), bare_within fs h.1)

pub fits_join : (s : List ℕ) (p : ℕ) (fs gs : List Field) → Fits s p fs → Fits s (p + size fs) gs → Fits s p (fs ++ gs)
fits_join s p fs gs h k = record {
  ranged = ranged_join fs gs h.ranged k.ranged;
  stands = rw flat_append (stands_join s p (flat fs) (flat gs) h.stands (rw length_flat k.stands));
}

pub fits_left : (s : List ℕ) (p : ℕ) (fs gs : List Field) → Fits s p (fs ++ gs) → Fits s p fs
fits_left s p fs gs h = record {
  ranged = ranged_left fs gs h.ranged;
  stands = stands_left s p (flat fs) (flat gs) (rw flat_append at h.stands);
}

pub fits_right : (s : List ℕ) (p : ℕ) (fs gs : List Field) → Fits s p (fs ++ gs) → Fits s (p + size fs) gs
fits_right s p fs gs h = record {
  ranged = ranged_right fs gs h.ranged;
  stands = rw length_flat at (stands_right s p (flat fs) (flat gs) (rw flat_append at h.stands));
}

-- fields that aren't there stand anywhere, and none of them is at fault
pub bare_fits : (s : List ℕ) (p : ℕ) (fs : List Field) → Ranged (bare fs) → Fits s p (bare fs)
bare_fits s p fs h = record { ranged = h; stands = rw (bare_flat fs) (unfold Stands in tt) }

pub fits_nil : (s : List ℕ) (p : ℕ) → Fits s p []
fits_nil s p = record { ranged = tt; stands = unfold Stands in tt }

-- a list in two parts that has a member: it stands in the one or in the other
Where : (fs gs b : List Field) (x : Field) (a : List Field) → Type 0
Where fs gs b x a = ((c : List Field) × (fs ≡ b ++ (x ∷ c))) ⊎ ((d : List Field) × (b ≡ fs ++ d) × (gs ≡ d ++ (x ∷ a)))

in_part : (fs gs b : List Field) (x : Field) (a : List Field) → fs ++ gs ≡ b ++ (x ∷ a) → Where fs gs b x a
unfolding Where
in_part [] gs b x a e = inr (b, refl, e)
in_part (f ∷ fs) gs [] x a e = let fx : f ≡ x = cc in inl (fs, rw fx)
in_part (f ∷ fs) gs (y ∷ b) x a e =
    let fy : f ≡ y = cc in
    let r : fs ++ gs ≡ b ++ (x ∷ a) = cc in
    go fy (in_part fs gs b x a r)
  where
    go : f ≡ y → Where fs gs b x a → Where (f ∷ fs) gs (y ∷ b) x a
    go fy (inl h) = inl (h.0, rw (fy, h.1))
    go fy (inr h) = inr (h.0, rw (fy, h.1), h.2)

-- one list in two parts, cut elsewhere
Parts : (fs gs b c : List Field) → Type 0
Parts fs gs b c = ((d : List Field) × (fs ≡ b ++ d)) ⊎ ((d : List Field) × (b ≡ fs ++ d) × (gs ≡ d ++ c))

parts' : (fs gs b c : List Field) → fs ++ gs ≡ b ++ c → Parts fs gs b c
unfolding Parts
parts' [] gs b c e = inr (b, refl, e)
parts' (f ∷ fs) gs [] c e = inl (f ∷ fs, refl)
parts' (f ∷ fs) gs (y ∷ b) c e =
    let fy : f ≡ y = cc in
    let r : fs ++ gs ≡ b ++ c = cc in
    go fy (parts' fs gs b c r)
  where
    go : f ≡ y → Parts fs gs b c → Parts (f ∷ fs) gs (y ∷ b) c
    go fy (inl h) = inl (h.0, rw (fy, h.1))
    go fy (inr h) = inr (h.0, rw (fy, h.1), h.2)

pub parts : (fs gs b c : List Field) → fs ++ gs ≡ b ++ c → ((d : List Field) × (fs ≡ b ++ d)) ⊎ ((d : List Field) × (b ≡ fs ++ d) × (gs ≡ d ++ c))
unfolding Parts
parts = parts'

pub past_none : {A : Type 0} (p : ℕ) (x : Read A) (b c : List Field) → [] ≡ b ++ c → Past p x → Past (p + size b) x
past_none p x [] c e h = rw add-zero h
past_none p x (y ∷ b) c e h = let z : ◌≡◌ {A = ℕ} 0 1 = cc in absurd (omega arith)

-- the first of some fields that aren't there have no bits
pub bare_first : (fs b c : List Field) → bare fs ≡ b ++ c → size b ≡ 0
bare_first fs [] c e = refl
bare_first [] (y ∷ b) c e = let z : ◌≡◌ {A = ℕ} 0 1 = cc in absurd (omega arith)
bare_first (f ∷ fs) (y ∷ b) c e =
    let fy : fld f.name 0 f.number ≡ y = cc in
    let r : bare fs ≡ b ++ c = cc in
    omega (arith, ap (λ (x : Field). x.width) fy, bare_first fs b c r)

pub past_one : {A : Type 0} (s : List ℕ) (p : ℕ) (x : Read A) (f : Field) (b c : List Field) → f ∷ [] ≡ b ++ c → Fits s p b → Past p x → (Fits s p (f ∷ []) → Past (p + size (f ∷ [])) x) → Past (p + size b) x
past_one s p x f [] c e h k m = rw add-zero k
past_one s p x f (y ∷ []) c e h k m = let fy : f ≡ y = cc in rw (← fy) (m (rw fy h))
past_one s p x f (y ∷ (z ∷ b)) c e h k m = let z : ◌≡◌ {A = ℕ} 0 1 = cc in absurd (omega arith)

pub past_less : {A : Type 0} (n m : ℕ) (x : Read A) → n ≤ m → Past m x → Past n x
past_less n m (read a e) l h = omega arith
past_less n m (stopped w) l h = omega arith

module _ (s : List ℕ) (p : ℕ) (w : Reason) where
  pub stops_nil : Stops s p [] w → ⊥
  stops_nil h = go h.before h.split
    where
      go : (b : List Field) → [] ≡ b ++ (h.at ∷ h.after) → ⊥
      go [] e = let z : ◌≡◌ {A = ℕ} 0 1 = cc in omega arith
      go (x ∷ b) e = let z : ◌≡◌ {A = ℕ} 0 1 = cc in omega arith

  pub bare_stops : (fs : List Field) → Stops s p (bare fs) w → ⊥
  bare_stops fs h = go fs h.before h.split h.fault
    where
      go : (fs b : List Field) → bare fs ≡ b ++ (h.at ∷ h.after) → Fault s w (p + size h.before) h.at → ⊥
      go [] [] e k = let z : ◌≡◌ {A = ℕ} 0 1 = cc in omega arith
      go [] (x ∷ b) e k = let z : ◌≡◌ {A = ℕ} 0 1 = cc in omega arith
      go (f ∷ fs) (x ∷ b) e k = let r : bare fs ≡ b ++ (h.at ∷ h.after) = cc in go fs b r k
      go (f ∷ fs) [] e k = let fx : fld f.name 0 f.number ≡ h.at = cc in none_at h.at fx k
        where
          none_at : (x : Field) → fld f.name 0 f.number ≡ x → Fault s w (p + size h.before) x → ⊥
          none_at x fx (cut o u) = omega (arith, o.some, ap (λ (y : Field). y.width) fx)
          none_at x fx (wrong j o u) = let d = o.demanded in let z : ◌≡◌ {A = ℕ} 0 1 = cc in omega arith

  pub stops_left : (fs gs : List Field) → Stops s p fs w → Stops s p (fs ++ gs) w
  stops_left fs gs h = record {
    before = h.before;
    at = h.at;
    after = h.after ++ gs;
    split = rw (h.split, append_assoc);
    well = h.well;
    fault = h.fault;
  }

  pub stops_right : (fs gs : List Field) → Fits s p fs → Stops s (p + size fs) gs w → Stops s p (fs ++ gs) w
  stops_right fs gs k h = record {
    before = fs ++ h.before;
    at = h.at;
    after = h.after;
    split = rw (h.split, append_assoc);
    well = fits_join s p fs h.before k h.well;
    fault = rw (size_append, ← add_assoc) h.fault;
  }

  pub stops_in : (fs gs : List Field) → Stops s p (fs ++ gs) w → Stops s p fs w ⊎ (Fits s p fs × Stops s (p + size fs) gs w)
  unfolding Where
  stops_in fs gs h = go (in_part fs gs h.before h.at h.after h.split)
    where
      go : Where fs gs h.before h.at h.after → Stops s p fs w ⊎ (Fits s p fs × Stops s (p + size fs) gs w)
      go (inl k) = inl (record { before = h.before; at = h.at; after = k.0; split = k.1; well = h.well; fault = h.fault })
      go (inr k) =
          let f : Fits s p (fs ++ k.0) = rw k.1 at h.well in
          inr (
            fits_left s p fs k.0 f,
            record {
              before = k.0;
              at = h.at;
              after = h.after;
              split = k.2;
              well = fits_right s p fs k.0 f;
              fault = rw (k.1, size_append, ← add_assoc) at h.fault;
            },
          )

  -- a field alone
  pub stops_one : (f : Field) → Fault s w p f → Stops s p (f ∷ []) w
  stops_one f h = record { before = []; at = f; after = []; split = refl; well = fits_nil s p; fault = rw add-zero h }

  pub one_stops : (f : Field) → Stops s p (f ∷ []) w → Fault s w p f
  one_stops f h = go h.before h.split h.fault
    where
      go : (b : List Field) → f ∷ [] ≡ b ++ (h.at ∷ h.after) → Fault s w (p + size b) h.at → Fault s w p f
      go [] e k = let fa : f ≡ h.at = cc in rw fa (rw add-zero at k)
      go (x ∷ []) e k = let z : ◌≡◌ {A = ℕ} 0 1 = cc in absurd (omega arith)
      go (x ∷ (y ∷ b)) e k = let z : ◌≡◌ {A = ℕ} 0 1 = cc in absurd (omega arith)

  -- a field and more
  pub stops_first : (f : Field) (fs : List Field) → Stops s p (f ∷ fs) w → Fault s w p f ⊎ (Fits s p (f ∷ []) × Stops s (p + size (f ∷ [])) fs w)
  stops_first f fs h = go (stops_in (f ∷ []) fs h)
    where
      go : Stops s p (f ∷ []) w ⊎ (Fits s p (f ∷ []) × Stops s (p + size (f ∷ [])) fs w) → Fault s w p f ⊎ (Fits s p (f ∷ []) × Stops s (p + size (f ∷ [])) fs w)
      go (inl k) = inl (one_stops f k)
      go (inr k) = inr k

  pub first_stops : (f : Field) (fs : List Field) → Fault s w p f → Stops s p (f ∷ fs) w
  first_stops f fs h = stops_left (f ∷ []) fs (stops_one f h)
