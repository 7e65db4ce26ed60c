-- What the law of refusals says of the code's answers, of the missing bits, and of the field that is named.
-- Assumes nothing.
use Prim.Native.Nat.{ℕ, suc, ◌+◌, ◌-◌, ◌≤◌, ◌<◌, ◌^◌}
use mathlib.Core.Path.{◌≡◌, refl, sym, ap, ◌∙◌}
use mathlib.Core.Logic.{◌↔◌}
use mathlib.Core.List.{List, [], ◌∷◌, ◌++◌, append-nil, append_assoc}
use lib.ListN.{length}
use Rattle.std.specs.Prelude.{Err}
use native.Mathlib.Omega.{arith}
use Rattle.base_bits.specs.declared.Refusal.{Refusal}
use Rattle.base_bits.specs.declared.Refusal.TheVariants.{PastEnd}
use Rattle.base_bits.specs.Bit.{bit_at, reach, Stands, spell, missing}
use Rattle.base_bits.specs.Refusal.{Mark, frame_marker, sync_code, mark_refusal}
use Rattle.base_syntax.specs.Syntax.{Field, only, Meets, flat, size, Ranged}
use Rattle.base_syntax.specs.Fault.{Fits, CutOff, Unmarked, Reason, Fault, cut, wrong, Stops, StopsAt, Over, Other}
use Rattle.base_syntax.specs.Reader.{Read, read, stopped, over, Reader}
use Rattle.base_syntax.specs.Law.{Any, Past, Reads}
use Rattle.base_syntax.proofs.Fields.{fits_join, size_append, length_flat, past_less}

-- the code's refusal e, exactly if the spelling of some values stops for a reason that has it
told_exactly : {A B : Type 0} {f : A → List Field} {r : Reader A} → Reads Any f r → (g : A → B) (s : List ℕ) (p : ℕ) (e : Refusal)
    → (over g (r s p) ≡ Err e) ↔ ((a : A) × (w : Reason) × (w.refusal ≡ e) × Ranged (f a) × Stops s p (f a) w)
told_exactly {A} {B} {f} {r} law g s p e = (λ h. to (r s p) refl h, λ h. rw (law.refuses s p h.1 h.0 tt h.4, h.2))
  where
    to : (x : Read A) → r s p ≡ x → over g x ≡ Err e → (a : A) × (w : Reason) × (w.refusal ≡ e) × Ranged (f a) × Stops s p (f a) w
    to (read a q) h k = let z : ◌≡◌ {A = ℕ} 0 1 = cc in absurd (omega arith)
    to (stopped w) h k =
        let we : w.refusal ≡ e = cc in
        let m = law.why s p w h in
        (m.0, w, we, m.2, m.3)

-- a mark's refusal is not the one of a field that is cut, and is that mark's alone
mark_not_cut : {X : Type 0} (k : Mark) → mark_refusal k ≡ PastEnd → X
mark_not_cut frame_marker h = let z : ◌≡◌ {A = ℕ} 0 1 = cc in absurd (omega arith)
mark_not_cut sync_code h = let z : ◌≡◌ {A = ℕ} 0 1 = cc in absurd (omega arith)

one_mark : (j k : Mark) → mark_refusal j ≡ mark_refusal k → j ≡ k
one_mark frame_marker frame_marker h = refl
one_mark frame_marker sync_code h = let z : ◌≡◌ {A = ℕ} 0 1 = cc in absurd (omega arith)
one_mark sync_code frame_marker h = let z : ◌≡◌ {A = ℕ} 0 1 = cc in absurd (omega arith)
one_mark sync_code sync_code h = refl

module _ {s : List ℕ} {w : Reason} {q : ℕ} {f : Field} where
  over_end : w.refusal ≡ PastEnd → Fault s w q f → Over s q f
  over_end e (cut o u) = o
  over_end e (wrong k o u) = mark_not_cut k (sym (ap (λ (v : Reason). v.refusal) u) ∙ e)

  other_mark : (k : Mark) → w.refusal ≡ mark_refusal k → Fault s w q f → Other s k q f
  other_mark k e (cut o u) = mark_not_cut k (sym e ∙ ap (λ (v : Reason). v.refusal) u)
  other_mark k e (wrong j o u) = rw (one_mark j k (sym (ap (λ (v : Reason). v.refusal) u) ∙ e)) at o

module _ {s : List ℕ} {p : ℕ} {fs : List Field} {F G : ℕ → Field → Type 0} where
  -- the same stop, said in another way
  stops_so : (h : StopsAt s p fs F) → G (p + size h.before) h.at → StopsAt s p fs G
  stops_so h g = record { before = h.before; at = h.at; after = h.after; split = h.split; well = h.well; fault = g }

-- what each number says of the frame: the line of docs/RULES.md's table for 6, and those for 4 and 5
module _ {A B : Type 0} {f : A → List Field} {r : Reader A} (law : Reads Any f r) (g : A → B) (s : List ℕ) (p : ℕ) where
  pub past_end_exactly : (over g (r s p) ≡ Err PastEnd) ↔ ((a : A) × Ranged (f a) × CutOff s p (f a))
  past_end_exactly = (
    λ h. let m = (told_exactly law g s p PastEnd).0 h in (m.0, m.3, stops_so m.4 (over_end m.2 m.4.fault)),
    λ h. (told_exactly law g s p PastEnd).1 (h.0, _, refl, h.1, stops_so h.2 (cut h.2.fault refl)),
  )

  pub mark_exactly : (k : Mark) → (over g (r s p) ≡ Err (mark_refusal k)) ↔ ((a : A) × Ranged (f a) × Unmarked s p (f a) k)
  mark_exactly k = (
    λ h. let m = (told_exactly law g s p (mark_refusal k)).0 h in (m.0, m.3, stops_so m.4 (other_mark k m.2 m.4.fault)),
    λ h. (told_exactly law g s p (mark_refusal k)).1 (h.0, _, refl, h.1, stops_so h.2 (wrong k h.2.fault refl)),
  )

-- of a field that is cut, 1 to n bits are missing, and they are those past the end
module _ (s : List ℕ) (p n : ℕ) (some : 0 < n) (past : reach s < p + n) where
  pub missing_range : (1 ≤ missing s p n) × (missing s p n ≤ n)
  unfolding missing
  missing_range = (omega arith, omega arith)

  pub missing_those : (i : ℕ) → i < n → (reach s ≤ p + i) ↔ (n - missing s p n ≤ i)
  unfolding missing
  missing_those i h = (λ k. omega arith, λ k. omega arith)

-- bits that stand in s stand in t too, where t has the same bits there
stands_also : (s t : List ℕ) (p : ℕ) (l : List ℕ) → reach t ≡ reach s → ((i : ℕ) → i < p + length l → bit_at t i ≡ bit_at s i) → Stands s p l → Stands t p l
unfolding Stands
stands_also s t p [] e a h = tt
stands_also s t p (b ∷ l) e a h = (rw e h.0, a p (omega arith) ∙ h.1, stands_also s t (suc p) l e (λ i k. a i (omega arith)) h.2)

at_number : (b : List Field) (x : Field) (c : List Field) (m : ℕ) (k : Mark) → Ranged (b ++ (x ∷ c)) → x.demand ≡ only m k → (x.number < 2 ^ x.width) × Meets x.demand x.number × (x.number ≡ m)
at_number [] x c m k h d = (h.0.0, h.0.1, rw d at h.0.1)
at_number (y ∷ b) x c m k h d = at_number b x c m k h.1 d

-- with the expected bits at the mark that was at fault, and the earlier bits kept, reading passes that mark
pub mended : {A : Type 0} {f : A → List Field} {r : Reader A} → Reads Any f r → (s t : List ℕ) (p : ℕ) (k : Mark) (a : A) → Ranged (f a) → (h : Unmarked s p (f a) k)
    → reach t ≡ reach s → ((i : ℕ) → i < p + size h.before → bit_at t i ≡ bit_at s i) → Stands t (p + size h.before) (spell h.at.width h.fault.expected)
    → Past (p + size h.before + h.at.width) (r t p)
mended {A} {f} {r} law s t p k a ra h re same put =
    let n = at_number h.before h.at h.after h.fault.expected k (rw h.split at ra) h.fault.demanded in
    let b : Fits t p h.before = record {
      ranged = h.well.ranged;
      stands = stands_also s t p (flat h.before) re (λ i l. same i (omega (arith, length_flat h.before))) h.well.stands;
    } in
    let x : Fits t (p + size h.before) (h.at ∷ []) = record { ranged = ((n.0, n.1), tt); stands = rw (append-nil, n.2) put } in
    let both = fits_join t p h.before (h.at ∷ []) b x in
    let z : size (h.before ++ (h.at ∷ [])) ≡ size h.before + (h.at.width + 0) = size_append h.before (h.at ∷ []) in
    past_less _ _ (r t p) (omega (arith, z)) (law.passes t p a (h.before ++ (h.at ∷ [])) h.after tt (h.split ∙ sym (append_assoc h.before (h.at ∷ []) h.after)) both)
