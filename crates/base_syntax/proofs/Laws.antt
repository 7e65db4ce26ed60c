-- The laws of a field, of one syntax after another, and of the other ways to put syntaxes together.
-- Assumes nothing.
use Prim.Native.Nat.{ℕ, ◌+◌, ◌<◌, ◌^◌}
use mathlib.Core.Path.{◌≡◌, refl, ap, sym, ◌∙◌}
use mathlib.Core.Logic.{◌↔◌, ◌⊎◌, inl, inr}
use mathlib.Core.Bool.{Bool, true, false}
use mathlib.Core.List.{List, [], ◌∷◌, ◌++◌, append-nil}
use native.Mathlib.Nat.{add-zero, add_assoc}
use native.Mathlib.Omega.{arith}
use lib.Dec.{eqb}
use lib.Pow.{pow_pos}
use borrow.Author.Tests.{eq-eqb, ne_eqb, eqb-true, eqb-false}
use Rattle.base_bits.specs.Bit.{Stands, spell, number, fits}
use Rattle.base_bits.specs.Refusal.{Mark, Name}
use Rattle.base_shared.specs.Choice.{pick}
use Rattle.base_syntax.specs.Syntax.{Field, fld, fixed, bare, fld_if, optional, size, Ranged}
use Rattle.base_syntax.specs.Fault.{Fits, Reason, cut_at, wrong_at, Fault, cut, wrong, Stops}
use Rattle.base_syntax.specs.Reader.{Read, read, stopped, bind, Reader, give, ◌>>=◌, field, must, group_if, field_if}
use Rattle.base_syntax.specs.Law.{Any, Past, Reads}
use Rattle.base_bits.proofs.Number.{number_lt, fits_no, fits_short}
use Rattle.base_bits.proofs.Stand.{spells_number, number_spelt}
use Rattle.base_syntax.proofs.Fields.{size_append, bare_size, bare_append, bare_twice, zeros, all_zero, ranged_join, ranged_left, ranged_right, Within, ranged_within, bare_within, fits_join, fits_left, fits_right, bare_fits, fits_nil, stops_nil, bare_stops, stops_left, stops_right, stops_in, stops_one, one_stops, parts, past_none, bare_first, past_one, past_less}

-- what a field at p is: its number, or cut short
pub field_got : (x : Name) (s : List ℕ) (p n : ℕ) → fits s p n ≡ true → field x n s p ≡ read (number s p n) (p + n)
unfolding field
field_got x s p n h = rw h

pub field_cut : (x : Name) (s : List ℕ) (p n : ℕ) → fits s p n ≡ false → field x n s p ≡ stopped (cut_at x n s p)
unfolding field
field_cut x s p n h = rw h

spelt : (x : Name) (s : List ℕ) (p n a : ℕ) → a < 2 ^ n → Stands s p (spell n a) → field x n s p ≡ read a (p + n)
spelt x s p n a r h = let m = number_spelt s p n a r h in rw (← m.1) (field_got x s p n m.0)

-- two outcomes are not the same
clash : {A : Type 0} {X : Type 0} {a : A} {p : ℕ} {w : Reason} → read a p ≡ stopped w → X
clash h = let z : ◌≡◌ {A = ℕ} 0 1 = cc in absurd (omega arith)

hsalc : {A : Type 0} {X : Type 0} {a : A} {p : ℕ} {w : Reason} → stopped w ≡ read a p → X
hsalc h = let z : ◌≡◌ {A = ℕ} 0 1 = cc in absurd (omega arith)

-- a field of n bits
pub field_reads : {x : Name} {n : ℕ} → Reads {A = ℕ} Any (λ v. fld x n v ∷ []) (field x n)
field_reads {x} {n} = record {
  some = (0, tt, ((pow_pos n, tt), tt));
  sound = λ s p a e h. yes' s p a e (fits s p n) refl h;
  complete = λ s p a k f. rw add-zero (spelt x s p n a f.ranged.0.0 (rw append-nil at f.stands));
  why = λ s p w h. no' s p w (fits s p n) refl h;
  refuses = λ s p w a k h. at_fault s p w a (one_stops s p w (fld x n a) h);
  passes = λ s p a b c k e h. past_one s p (field x n s p) (fld x n a) b c e h (on s p (fits s p n) refl) (λ f. over' s p a f);
  only = λ a b k l y z. omega (arith, y.0.0, z.0.0);
}
  where
    yes' : (s : List ℕ) (p a e : ℕ) (b : Bool) → fits s p n ≡ b → field x n s p ≡ read a e
        → Unit {0} × Fits s p (fld x n a ∷ []) × (e ≡ p + (n + 0))
    yes' s p a e true w h =
        let f = field_got x s p n w in
        let na : number s p n ≡ a = cc in
        let pe : p + n ≡ e = cc in (
          tt,
          record {
            ranged = ((rw (← na) (number_lt s p n), tt), tt);
            stands = rw (append-nil, ← na) (spells_number s p n w);
          },
          omega arith,
        )
    yes' s p a e false w h = hsalc (sym (field_cut x s p n w) ∙ h)

    no' : (s : List ℕ) (p : ℕ) (w : Reason) (b : Bool) → fits s p n ≡ b → field x n s p ≡ stopped w
        → (a : ℕ) × Unit {0} × Ranged (fld x n a ∷ []) × Stops s p (fld x n a ∷ []) w
    no' s p w true t h = clash (sym (field_got x s p n t) ∙ h)
    no' s p w false t h =
        let f = field_cut x s p n t in
        let we : w ≡ cut_at x n s p = cc in
        let l = fits_short s p n t in
        (0, tt, ((pow_pos n, tt), tt), stops_one s p w (fld x n 0) (cut (record { some = l.0; past = l.1 }) we))

    at_fault : (s : List ℕ) (p : ℕ) (w : Reason) (a : ℕ) → Fault s w p (fld x n a) → field x n s p ≡ stopped w
    at_fault s p w a (cut o e) = rw e (field_cut x s p n (fits_no s p n o.some o.past))
    at_fault s p w a (wrong k o e) = let d = o.demanded in let z : ◌≡◌ {A = ℕ} 0 1 = cc in absurd (omega arith)

    on : (s : List ℕ) (p : ℕ) (b : Bool) → fits s p n ≡ b → Past p (field x n s p)
    on s p true h = rw (field_got x s p n h) (omega arith)
    on s p false h = rw (field_cut x s p n h) (omega arith)

    over' : (s : List ℕ) (p a : ℕ) → Fits s p (fld x n a ∷ []) → Past (p + (n + 0)) (field x n s p)
    over' s p a f = rw (spelt x s p n a f.ranged.0.0 (rw append-nil at f.stands)) (omega arith)

-- a field of n bits whose number must be m
pub must_reads : {x : Name} {n m : ℕ} {u : Mark} → m < 2 ^ n → Reads {A = ℕ} Any (λ v. fixed x n m u v ∷ []) (must x n m u)
unfolding must
must_reads {x} {n} {m} {u} lt = record {
  some = (m, tt, ((lt, refl), tt));
  sound = λ s p a e h. yes' s p a e (fits s p n) refl (eqb (number s p n) m) refl h;
  complete = λ s p a k f. let am = f.ranged.0.1 in rw (spelt x s p n a f.ranged.0.0 (rw append-nil at f.stands), eq-eqb a m am, add-zero);
  why = λ s p w h. no' s p w (fits s p n) refl (eqb (number s p n) m) refl h;
  refuses = λ s p w a k h. at_fault s p w a (one_stops s p w (fixed x n m u a) h);
  passes = λ s p a b c k e h. past_one s p (must x n m u s p) (fixed x n m u a) b c e h (on s p (fits s p n) refl (eqb (number s p n) m) refl) (λ f. over' s p a f);
  only = λ a b k l y z. omega (arith, y.0.0, z.0.0);
}
  where
    yes' : (s : List ℕ) (p a e : ℕ) (b : Bool) → fits s p n ≡ b → (c : Bool) → eqb (number s p n) m ≡ c → must x n m u s p ≡ read a e
        → Unit {0} × Fits s p (fixed x n m u a ∷ []) × (e ≡ p + (n + 0))
    yes' s p a e true w true v h =
        let g : read (number s p n) (p + n) ≡ read a e = rw (field_got x s p n w, v) at h in
        let na : number s p n ≡ a = cc in
        let pe : p + n ≡ e = cc in (
          tt,
          record {
            ranged = ((rw (← na) (number_lt s p n), sym na ∙ eqb-true _ _ v), tt);
            stands = rw (append-nil, ← na) (spells_number s p n w);
          },
          omega arith,
        )
    yes' s p a e true w false v h = hsalc (rw (field_got x s p n w, v) at h)
    yes' s p a e false w c v h = hsalc (rw (field_cut x s p n w) at h)

    no' : (s : List ℕ) (p : ℕ) (w : Reason) (b : Bool) → fits s p n ≡ b → (c : Bool) → eqb (number s p n) m ≡ c → must x n m u s p ≡ stopped w
        → (a : ℕ) × Unit {0} × Ranged (fixed x n m u a ∷ []) × Stops s p (fixed x n m u a ∷ []) w
    no' s p w true t true v h = clash (rw (field_got x s p n t, v) at h)
    no' s p w true t false v h =
        let g : stopped (wrong_at u x p (number s p n) m) ≡ stopped w = rw (field_got x s p n t, v) at h in
        let we : w ≡ wrong_at u x p (number s p n) m = cc in
        (m, tt, ((lt, refl), tt), stops_one s p w (fixed x n m u m) (wrong u (record { found = number s p n; expected = m; demanded = refl; range = number_lt s p n; stands = spells_number s p n t; differs = eqb-false _ _ v }) we))
    no' s p w false t c v h =
        let g : stopped (cut_at x n s p) ≡ stopped w = rw (field_cut x s p n t) at h in
        let we : w ≡ cut_at x n s p = cc in
        let l = fits_short s p n t in
        (m, tt, ((lt, refl), tt), stops_one s p w (fixed x n m u m) (cut (record { some = l.0; past = l.1 }) we))

    at_fault : (s : List ℕ) (p : ℕ) (w : Reason) (a : ℕ) → Fault s w p (fixed x n m u a) → must x n m u s p ≡ stopped w
    at_fault s p w a (cut o e) = rw (e, field_cut x s p n (fits_no s p n o.some o.past))
    at_fault s p w a (wrong k o e) =
        let d = o.demanded in
        let mm : m ≡ o.expected = cc in
        let uu : u ≡ k = cc in
        rw (spelt x s p n o.found o.range o.stands, ne_eqb o.found m (λ km. o.differs (km ∙ mm)), e, mm, uu)

    on : (s : List ℕ) (p : ℕ) (b : Bool) → fits s p n ≡ b → (c : Bool) → eqb (number s p n) m ≡ c → Past p (must x n m u s p)
    on s p true h true v = rw (field_got x s p n h, v) (omega arith)
    on s p true h false v = rw (field_got x s p n h, v) (omega arith)
    on s p false h c v = rw (field_cut x s p n h) (omega arith)

    over' : (s : List ℕ) (p a : ℕ) → Fits s p (fixed x n m u a ∷ []) → Past (p + (n + 0)) (must x n m u s p)
    over' s p a f = let am = f.ranged.0.1 in rw (spelt x s p n a f.ranged.0.0 (rw append-nil at f.stands), eq-eqb a m am) (omega arith)

module _ {A B : Type 0} {K : B → Type 0} {f : A → List Field} {r : Reader A} {g : B → List Field} {k : A → Reader B} where
  -- one syntax after another, where the value of the whole has that of the first as its part q; the rest may use that
  -- the first is within its widths
  pub then_in : (q : B → A) → Reads Any f r → ((a : A) → Within (f a) → Reads (λ b. K b × (q b ≡ a)) g (k a)) → Reads K (λ b. f (q b) ++ g b) (r >>= k)
  then_in q one two = record {
    some = let o = one.some in whole o.0 o.2 (after o.0 o.2).some;
    sound = λ s p b e h. go s p b e (r s p) refl h;
    complete = λ s p b kb h.
        let l = fits_left s p (f (q b)) (g b) h in
        let m = one.complete s p (q b) tt l in
        let n = (after (q b) l.ranged).complete s (p + size (f (q b))) b (kb, refl) (fits_right s p (f (q b)) (g b) h) in
        rw (m, n, size_append, add_assoc);
    why = λ s p w h. stopped' s p w (r s p) refl h;
    refuses = λ s p w b kb h. refuses' s p w b kb (stops_in s p w (f (q b)) (g b) h);
    passes = λ s p b c d kb e h. passes' s p b c d kb h (parts (f (q b)) (g b) c d e);
    only = λ b c kb kc y z.
        let y' = rw (bare_append (f (q b)) (g b)) at y in
        let z' = rw (bare_append (f (q c)) (g c)) at z in
        let yl = ranged_left (bare (f (q b))) (bare (g b)) y' in
        let e = one.only (q b) (q c) tt tt yl (ranged_left (bare (f (q c))) (bare (g c)) z') in
        (two (q b) (bare_within (f (q b)) yl)).only b c (kb, refl) (kc, sym e) (ranged_right (bare (f (q b))) (bare (g b)) y') (ranged_right (bare (f (q c))) (bare (g c)) z');
  }
    where
      after : (a : A) → Ranged (f a) → Reads (λ b. K b × (q b ≡ a)) g (k a)
      after a h = two a (ranged_within (f a) h)

      whole : (a : A) → Ranged (f a) → ((b : B) × (K b × (q b ≡ a)) × Ranged (g b)) → (b : B) × K b × Ranged (f (q b) ++ g b)
      whole a ra t = (t.0, t.1.0, ranged_join (f (q t.0)) (g t.0) (rw t.1.1 ra) t.2)

      go : (s : List ℕ) (p : ℕ) (b : B) (e : ℕ) (x : Read A) → r s p ≡ x → bind x (λ a m. k a s m) ≡ read b e
          → K b × Fits s p (f (q b) ++ g b) × (e ≡ p + size (f (q b) ++ g b))
      go s p b e (read a m) w h =
          let o = one.sound s p a m w in
          let t = (after a o.1.ranged).sound s m b e h in
          let qa = t.0.1 in (
            t.0.0,
            fits_join s p (f (q b)) (g b) (rw qa o.1) (rw (qa, ← o.2) t.1),
            omega (arith, t.2, o.2, size_append (f (q b)) (g b), ap (λ x. size (f x)) qa),
          )
      go s p b e (stopped x) w h = hsalc h

      stopped' : (s : List ℕ) (p : ℕ) (w : Reason) (x : Read A) → r s p ≡ x → bind x (λ a m. k a s m) ≡ stopped w
          → (b : B) × K b × Ranged (f (q b) ++ g b) × Stops s p (f (q b) ++ g b) w
      stopped' s p w (read a m) e h =
          let o = one.sound s p a m e in
          let t = (after a o.1.ranged).why s m w h in
          let b = t.0 in
          let qa = t.1.1 in (
            b,
            t.1.0,
            ranged_join (f (q b)) (g b) (rw qa o.1.ranged) t.2,
            stops_right s p w (f (q b)) (g b) (rw qa o.1) (rw (qa, ← o.2) t.3),
          )
      stopped' s p w (stopped x) e h =
          let xw : x ≡ w = cc in
          let o = one.why s p w (e ∙ ap (λ y. stopped y) xw) in
          let t = (after o.0 o.2).some in
          let b = t.0 in
          let qa = t.1.1 in (
            b,
            t.1.0,
            ranged_join (f (q b)) (g b) (rw qa o.2) t.2,
            stops_left s p w (f (q b)) (g b) (rw qa o.3),
          )

      refuses' : (s : List ℕ) (p : ℕ) (w : Reason) (b : B) → K b → Stops s p (f (q b)) w ⊎ (Fits s p (f (q b)) × Stops s (p + size (f (q b))) (g b) w)
          → (r >>= k) s p ≡ stopped w
      refuses' s p w b kb (inl h) = rw (one.refuses s p w (q b) tt h)
      refuses' s p w b kb (inr h) =
          let m = one.complete s p (q b) tt h.0 in
          rw (m, (after (q b) h.0.ranged).refuses s (p + size (f (q b))) w b (kb, refl) h.1)

      -- what comes after the first syntax lies after it
      on : (s : List ℕ) (p n : ℕ) (x : Read A) → r s p ≡ x → Past n x → Past n (bind x (λ a m. k a s m))
      on s p n (stopped w) e h = h
      on s p n (read a m) e h =
          let o = one.sound s p a m e in
          let rest = after a o.1.ranged in
          let t = rest.some in
          past_less n m (k a s m) h (rw add-zero at (rest.passes s m t.0 [] (g t.0) t.1 refl (fits_nil s m)))

      passes' : (s : List ℕ) (p : ℕ) (b : B) (c d : List Field) → K b → Fits s p c → ((e : List Field) × (f (q b) ≡ c ++ e)) ⊎ ((e : List Field) × (c ≡ f (q b) ++ e) × (g b ≡ e ++ d))
          → Past (p + size c) ((r >>= k) s p)
      passes' s p b c d kb h (inl e) = on s p (p + size c) (r s p) refl (one.passes s p (q b) c e.0 tt e.1 h)
      passes' s p b c d kb h (inr e) =
          let h' : Fits s p (f (q b) ++ e.0) = rw e.1 at h in
          let l = fits_left s p (f (q b)) e.0 h' in
          let m = one.complete s p (q b) tt l in
          let t = (after (q b) l.ranged).passes s (p + size (f (q b))) b e.0 d (kb, refl) e.2 (fits_right s p (f (q b)) e.0 h') in
          rw (e.1, size_append, ← add_assoc, m) t

  pub then : (q : B → A) → Reads Any f r → ((a : A) → Reads (λ b. K b × (q b ≡ a)) g (k a)) → Reads K (λ b. f (q b) ++ g b) (r >>= k)
  then q one two = then_in q one (λ a h. two a)

-- a field, and then the rest
pub take : {B : Type 0} {K : B → Type 0} {x : Name} {n : ℕ} {g : B → List Field} {k : ℕ → Reader B} (q : B → ℕ)
    → ((a : ℕ) → Reads (λ b. K b × (q b ≡ a)) g (k a)) → Reads K (λ b. fld x n (q b) ∷ g b) (field x n >>= k)
take q two = then q field_reads two

-- the same, where the rest uses that the number is in range
pub take_in : {B : Type 0} {K : B → Type 0} {x : Name} {n : ℕ} {g : B → List Field} {k : ℕ → Reader B} (q : B → ℕ)
    → ((a : ℕ) → a < 2 ^ n → Reads (λ b. K b × (q b ≡ a)) g (k a)) → Reads K (λ b. fld x n (q b) ∷ g b) (field x n >>= k)
take_in q two = then_in q field_reads (λ a h. two a h.0)

-- a field whose number must be m, and then the rest
pub demand : {B : Type 0} {K : B → Type 0} {x : Name} {n m : ℕ} {u : Mark} {g : B → List Field} {k : ℕ → Reader B} (q : B → ℕ) → m < 2 ^ n
    → ((a : ℕ) → Reads (λ b. K b × (q b ≡ a)) g (k a)) → Reads K (λ b. fixed x n m u (q b) ∷ g b) (must x n m u >>= k)
demand q lt two = then q (must_reads lt) two

-- a group that is the last
pub last : {A B : Type 0} {K : B → Type 0} {f : A → List Field} {r : Reader A} {m : A → B} (q : B → A)
    → Reads Any f r → ((a : A) → K (m a)) → ((a : A) → q (m a) ≡ a) → ((b : B) → K b → b ≡ m (q b))
    → Reads K (λ b. f (q b)) (r >>= λ a. give (m a))
last {A} {B} {K} {f} {r} {m} q one known back same = record {
  some = let o = one.some in (m o.0, known o.0, rw (back o.0) o.2);
  sound = λ s p b e h. go s p b e (r s p) refl h;
  complete = λ s p b kb h. rw (one.complete s p (q b) tt h, ← same b kb);
  why = λ s p w h. stopped' s p w (r s p) refl h;
  refuses = λ s p w b kb h. rw (one.refuses s p w (q b) tt h);
  passes = λ s p b c d kb e h. on (p + size c) (r s p) (one.passes s p (q b) c d tt e h);
  only = λ b c kb kc y z. same b kb ∙ ap m (one.only (q b) (q c) tt tt y z) ∙ sym (same c kc);
}
  where
    go : (s : List ℕ) (p : ℕ) (b : B) (e : ℕ) (x : Read A) → r s p ≡ x → bind x (λ a n. read (m a) n) ≡ read b e
        → K b × Fits s p (f (q b)) × (e ≡ p + size (f (q b)))
    go s p b e (read a n) w h =
        let mb : m a ≡ b = cc in
        let ne : n ≡ e = cc in
        let qa : q b ≡ a = rw (← mb) (back a) in
        let o = one.sound s p a n w in
        (rw mb at (known a), rw qa o.1, rw qa (sym ne ∙ o.2))
    go s p b e (stopped x) w h = hsalc h

    stopped' : (s : List ℕ) (p : ℕ) (w : Reason) (x : Read A) → r s p ≡ x → bind x (λ a n. read (m a) n) ≡ stopped w
        → (b : B) × K b × Ranged (f (q b)) × Stops s p (f (q b)) w
    stopped' s p w (read a n) e h = clash h
    stopped' s p w (stopped x) e h =
        let xw : x ≡ w = cc in
        let o = one.why s p w (e ∙ ap (λ y. stopped y) xw) in
        let a = o.0 in
        (m a, known a, rw (back a) o.2, rw (back a) o.3)

    on : (n : ℕ) (x : Read A) → Past n x → Past n (bind x (λ a e. read (m a) e))
    on n (read a e) h = h
    on n (stopped w) h = h

-- nothing more, once the value is known
pub done : {B : Type 0} {K : B → Type 0} (a : B) → K a → ((b : B) → K b → b ≡ a) → Reads K (λ b. []) (give a)
done a ka same = record {
  some = (a, ka, tt);
  sound = λ s p b e h.
      let ab : a ≡ b = cc in
      let pe : p ≡ e = cc in
      (rw ab at ka, fits_nil s p, omega arith);
  complete = λ s p b kb h. rw (same b kb, add-zero);
  why = λ s p w h. clash h;
  refuses = λ s p w b kb h. absurd (stops_nil s p w h);
  passes = λ s p b c d kb e h. past_none p (read a p) c d e (omega arith);
  only = λ b c kb kc y z. same b kb ∙ sym (same c kc);
}

-- the spelling said in another way, which what is known makes the same
pub respelt : {B : Type 0} {K : B → Type 0} {f g : B → List Field} {r : Reader B} → ((b : B) → K b → f b ≡ g b) → Reads K f r → Reads K g r
respelt same law = record {
  some = let m = law.some in (m.0, m.1, rw (same m.0 m.1) at m.2);
  sound = λ s p b e h.
      let m = law.sound s p b e h in
      (m.0, rw (same b m.0) at m.1, rw (same b m.0) at m.2);
  complete = λ s p b kb h. rw (← (same b kb)) (law.complete s p b kb (rw (same b kb) h));
  why = λ s p w h.
      let m = law.why s p w h in
      let e = same m.0 m.1 in
      (m.0, m.1, rw e at m.2, rw e at m.3);
  refuses = λ s p w b kb h. law.refuses s p w b kb (rw (same b kb) h);
  passes = λ s p b c d kb e h. law.passes s p b c d kb (same b kb ∙ e) h;
  only = λ b c kb kc y z. law.only b c kb kc (rw (same b kb) y) (rw (same c kc) z);
}

-- one syntax after another, whose spelling h is said in another way, which what is known makes the same
pub then_as : {A B : Type 0} {K : B → Type 0} {f : A → List Field} {r : Reader A} {g : B → List Field} {k : A → Reader B} (h : B → List Field) (q : B → A) → ((b : B) → K b → f (q b) ≡ h b)
    → Reads Any f r → ((a : A) → Reads (λ b. K b × (q b ≡ a)) g (k a)) → Reads K (λ b. h b ++ g b) (r >>= k)
then_as h q same one two = respelt (λ b kb. rw (same b kb)) (then q one two)

-- one of two, by a test t on the value that what is known decides
pub branch_in : {B : Type 0} {K : B → Type 0} {f g : B → List Field} {r q : Reader B} (c : Bool) (t : B → Bool) → ((b : B) → K b → t b ≡ c)
    → (c ≡ true → Reads K f r) → (c ≡ false → Reads K g q) → Reads K (λ b. pick (t b) (f b) (g b)) (pick c r q)
branch_in true t d one two = respelt (λ b kb. rw (d b kb)) (one refl)
branch_in false t d one two = respelt (λ b kb. rw (d b kb)) (two refl)

-- a last group or field with nothing after it
pub ends : {B : Type 0} {K : B → Type 0} {g : B → List Field} {r : Reader B} → Reads K (λ b. g b ++ []) r → Reads K g r
ends law = respelt (λ b k. append-nil _) law

-- a syntax that is there only if a test holds; d is the value whose fields are all 0
pub group_if_lem : {A : Type 0} {f : A → List Field} {r : Reader A} (c : Bool) (d : A) → zeros (f d) ≡ true → Reads Any f r → Reads Any (λ a. optional c (f a)) (pick c r (give d))
group_if_lem true d z one = one
group_if_lem {A} {f} false d z one = let nil = all_zero (f d) z in record {
  some = (d, tt, nil);
  sound = λ s p a e h.
      let da : d ≡ a = cc in
      let pe : p ≡ e = cc in
      (tt, rw (← da) (bare_fits s p (f d) nil), omega (arith, bare_size (f a)));
  complete = λ s p a k h. rw (one.only a d tt tt h.ranged nil, bare_size (f d), add-zero);
  why = λ s p w h. clash h;
  refuses = λ s p w a k h. absurd (bare_stops s p w (f a) h);
  passes = λ s p a b c k e h. rw (bare_first (f a) b c e, add-zero) (omega arith);
  only = λ a b k l y z. one.only a b tt tt (rw (bare_twice (f a)) at y) (rw (bare_twice (f b)) at z);
}

-- the same of one field
field_if_lem : (c : Bool) (x : Name) (n : ℕ) → Reads Any (λ a. fld_if c x n a ∷ []) (pick c (field x n) (give 0))
field_if_lem true x n = field_reads
field_if_lem false x n = group_if_lem false 0 refl (field_reads {x = x} {n = n})

-- and then the rest, where what is known decides the test
module _ {B : Type 0} {K : B → Type 0} {g : B → List Field} (c : Bool) (t : B → Bool) (known : (b : B) → K b → t b ≡ c) where
  pub next_if : {A : Type 0} {f : A → List Field} {r : Reader A} {k : A → Reader B} (d : A) → zeros (f d) ≡ true → (q : B → A)
      → Reads Any f r → ((a : A) → Reads (λ b. K b × (q b ≡ a)) g (k a)) → Reads K (λ b. optional (t b) (f (q b)) ++ g b) (group_if c d r >>= k)
  unfolding group_if
  next_if d z q one two = respelt (λ b kb. rw (known b kb)) (then q (group_if_lem c d z one) two)

  pub take_if : {k : ℕ → Reader B} (x : Name) (n : ℕ) (q : B → ℕ)
      → ((a : ℕ) → Reads (λ b. K b × (q b ≡ a)) g (k a)) → Reads K (λ b. fld_if (t b) x n (q b) ∷ g b) (field_if c x n >>= k)
  unfolding field_if
  take_if x n q two = respelt (λ b kb. rw (known b kb)) (then q (field_if_lem c x n) two)

-- a field, and a syntax, that are there by a test on numbers given from outside
module _ {B : Type 0} {K : B → Type 0} {g : B → List Field} (c : Bool) where
  pub take_by : {k : ℕ → Reader B} (x : Name) (n : ℕ) (q : B → ℕ)
      → ((a : ℕ) → Reads (λ b. K b × (q b ≡ a)) g (k a)) → Reads K (λ b. fld_if c x n (q b) ∷ g b) (field_if c x n >>= k)
  take_by = take_if c (λ b. c) (λ b k. refl)

  pub next_by : {A : Type 0} {f : A → List Field} {r : Reader A} {k : A → Reader B} (d : A) → zeros (f d) ≡ true → (q : B → A)
      → Reads Any f r → ((a : A) → Reads (λ b. K b × (q b ≡ a)) g (k a)) → Reads K (λ b. optional c (f (q b)) ++ g b) (group_if c d r >>= k)
  next_by = next_if c (λ b. c) (λ b k. refl)

module _ {A : Type 0} {f : A → List Field} {r : Reader A} (law : Reads Any f r) where
  -- no two values fit at one place
  pub unique : (s : List ℕ) (p : ℕ) (a b : A) → Fits s p (f a) → Fits s p (f b) → a ≡ b
  unique s p a b ha hb =
      let x = law.complete s p a tt ha in
      let y = law.complete s p b tt hb in
      cc

  -- a reading accepts exactly if a spelling fits there
  pub accepts : (s : List ℕ) (p : ℕ) → ((a : A) × (e : ℕ) × (r s p ≡ read a e)) ↔ ((a : A) × Fits s p (f a))
  accepts s p = (
    λ h. let m = law.sound s p h.0 h.1 h.2 in (h.0, m.1),
    λ h. (h.0, p + size (f h.0), law.complete s p h.0 tt h.1),
  )

  -- a reading refuses for a reason exactly if the spelling of some values in range stops for it
  pub refuses_exactly : (s : List ℕ) (p : ℕ) (w : Reason) → (r s p ≡ stopped w) ↔ ((a : A) × Ranged (f a) × Stops s p (f a) w)
  refuses_exactly s p w = (
    λ h. let m = law.why s p w h in (m.0, m.2, m.3),
    λ h. law.refuses s p w h.0 tt h.2,
  )

  -- there is one reason at most, whatever values are chosen
  pub one_reason : (s : List ℕ) (p : ℕ) (v w : Reason) (a b : A) → Stops s p (f a) v → Stops s p (f b) w → v ≡ w
  one_reason s p v w a b ha hb =
      let x = law.refuses s p v a tt ha in
      let y = law.refuses s p w b tt hb in
      cc

  -- a spelling fits, or one stops, and never both
  pub either : (s : List ℕ) (p : ℕ) → ((a : A) × Fits s p (f a)) ⊎ ((a : A) × (w : Reason) × Ranged (f a) × Stops s p (f a) w)
  either s p = go (r s p) refl
    where
      go : (x : Read A) → r s p ≡ x → ((a : A) × Fits s p (f a)) ⊎ ((a : A) × (w : Reason) × Ranged (f a) × Stops s p (f a) w)
      go (read a e) h = let m = law.sound s p a e h in inl (a, m.1)
      go (stopped w) h = let m = law.why s p w h in inr (m.0, w, m.2, m.3)

  pub not_both : (s : List ℕ) (p : ℕ) (w : Reason) (a b : A) → Fits s p (f a) → Stops s p (f b) w → ⊥
  not_both s p w a b ha hb = clash (sym (law.complete s p a tt ha) ∙ law.refuses s p w b tt hb)
