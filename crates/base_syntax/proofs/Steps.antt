-- What a caller learns of a bit read, of a group's answer and of a branch, as steps along its own reading.
-- Assumes nothing.
use Prim.Native.Nat.{ℕ, ◌+◌, ◌≤◌, ◌<◌, ◌^◌}
use mathlib.Core.Path.{◌≡◌, refl, sym, ap, ◌∙◌}
use mathlib.Core.Bool.{Bool, true, false}
use mathlib.Core.List.{List}
use native.Mathlib.Omega.{arith}
use lib.Dec.{T, leb, eqb, leb→le}
use borrow.Author.Tests.{le-leb, lt-leb, eq-eqb, ne_eqb}
use mir.Val.{Fits}
use mir.Syntax.{w32}
use Rattle.std.specs.Prelude.{Result, Ok, Err}
use Rattle.std.specs.Result.{IsErrAnd, result_from_control_flow}
use Rattle.std.proofs.Common.{Continue, Break}
use Rattle.std.proofs.lemmas.Result.{err_from_is_err_and}
use Rattle.base_bits.specs.declared.BitsError.{BitsError}
use Rattle.base_bits.specs.declared.BitsError.TheVariants.{Short}
use Rattle.base_bits.specs.declared.Cursor.{Cursor}
use Rattle.base_bits.specs.Bit.{number, fits}
use Rattle.base_bits.specs.Refusal.{Mark, Name, the}
use Rattle.base_syntax.specs.Fault.{Reason, cut_at, wrong_at}
use Rattle.base_bits.specs.Read.{read_bits, read_bits_if}
use Rattle.base_syntax.specs.Reader.{Read, read, stopped, bind, tell, alter, Reader, field, must, field_if, group_if}
use Rattle.base_shared.specs.Choice.{pick}
use lib.Pow.{pow_pos}
use Rattle.base_syntax.proofs.Laws.{field_reads, field_got, field_cut}

narrow : (s : List ℕ) (p n : ℕ) (b : Bool) → T (leb n 31) → fits s p n ≡ b → read_bits s p n ≡ pick b (Ok (number s p n, record { at = p + n })) (Err Short)
unfolding read_bits
narrow s p n b t h = simp (le-leb n 31 (leb→le n 31 t), h)

-- a bit read of at most 31 bits that gave a value, and one that didn't
pub value_read : (x : Name) (s : List ℕ) (p n : ℕ) {r : Result (ℕ × Cursor) BitsError} {v : ℕ × Cursor} → r ≡ read_bits s p n → r ≡ Ok v → T (leb n 31) → field x n s p ≡ read v.0 v.1.at
value_read x s p n {r} {v} e w t = go (fits s p n) refl
  where
    go : (b : Bool) → fits s p n ≡ b → field x n s p ≡ read v.0 v.1.at
    go true h =
        let g : Ok v ≡ Ok (number s p n, record { at = p + n }) = sym w ∙ e ∙ narrow s p n true t h in
        let vn : v ≡ (number s p n, record { at = p + n }) = cc in
        rw vn (field_got x s p n h)
    go false h =
        let g : Ok v ≡ Err Short = sym w ∙ e ∙ narrow s p n false t h in
        let z : ◌≡◌ {A = ℕ} 0 1 = cc in
        absurd (omega arith)

pub short_read : (x : Name) (s : List ℕ) (p n : ℕ) (r : Result (ℕ × Cursor) BitsError) (u : BitsError) → r ≡ read_bits s p n → r ≡ Err u → T (leb n 31) → field x n s p ≡ stopped (cut_at x n s p)
short_read x s p n r u e w t = go (fits s p n) refl
  where
    go : (b : Bool) → fits s p n ≡ b → field x n s p ≡ stopped (cut_at x n s p)
    go true h =
        let g : ◌≡◌ {A = Result (ℕ × Cursor) BitsError} (Err u) (Ok (number s p n, record { at = p + n })) = sym w ∙ e ∙ narrow s p n true t h in
        let z : ◌≡◌ {A = ℕ} 0 1 = cc in
        absurd (omega arith)
    go false h = field_cut x s p n h

pub field_lt : (x : Name) (s : List ℕ) (p n : ℕ) {v e : ℕ} → field x n s p ≡ read v e → v < 2 ^ n
field_lt x s p n {v} {e} h = (field_reads.sound s p v e h).1.ranged.0.0

-- what a `?` learns of the call before it, and what it returns where that call failed
went : {A E : Type 0} {r : Result A E} {b : _} {v : A} → r ≡ result_from_control_flow b → b ≡ Continue v → r ≡ Ok v
went h w = rw w at h

failed : {A E : Type 0} {r : Result A E} {b : _} {z : _} → r ≡ result_from_control_flow b → b ≡ Break z → r ≡ Err z.0
failed h w = rw w at h

exit : {E A : Type 0} {y : Result A E} {w : E} {x : Result A E} → IsErrAnd y (λ e. e ≡ w) → Err w ≡ x → y ≡ x
exit {y = y} h e = let p = err_from_is_err_and y h in rw (p.1, p.2) e

-- the same as steps along a reading, whatever is kept of a reason: `search reading` walks a chain of reads
module _ {E A B : Type 0} (keep : Reason → E) (x : Name) (s : List ℕ) (p n : ℕ) (f : A → B) (k : ℕ → ℕ → Read A) (r : Result (ℕ × Cursor) BitsError) (e : r ≡ read_bits s p n) where
  pub stop : {b : _} {u : _} (y : Result (B × Cursor) E) → r ≡ result_from_control_flow b → b ≡ Break u → T (leb n 31) → IsErrAnd y (λ w. w ≡ keep (cut_at x n s p)) → y ≡ tell keep f (bind (field x n s p) k)
  stop y d h t i = exit i (rw (short_read x s p n r _ e (failed d h) t))

  pub step : {b : _} (v : ℕ × Cursor) (y : Result (B × Cursor) E) → r ≡ result_from_control_flow b → b ≡ Continue v → T (leb n 31) → y ≡ tell keep f (k v.0 v.1.at) → y ≡ tell keep f (bind (field x n s p) k)
  step v y d h t m = rw (value_read x s p n e (went d h) t) m

  -- and where the number must be m
  module _ (m : ℕ) (u : Mark) where
    pub must_stop : {b : _} {z : _} (y : Result (B × Cursor) E) → r ≡ result_from_control_flow b → b ≡ Break z → T (leb n 31) → IsErrAnd y (λ w. w ≡ keep (cut_at x n s p)) → y ≡ tell keep f (bind (must x n m u s p) k)
    unfolding must
    must_stop y d h t i = exit i (rw (short_read x s p n r _ e (failed d h) t))

    pub must_step : {b : _} (v : ℕ × Cursor) (y : Result (B × Cursor) E) → r ≡ result_from_control_flow b → b ≡ Continue v → T (leb n 31) → v.0 ≡ m → y ≡ tell keep f (k v.0 v.1.at) → y ≡ tell keep f (bind (must x n m u s p) k)
    unfolding must
    must_step v y d h t vm z = rw (value_read x s p n e (went d h) t, eq-eqb v.0 m vm) z

    pub must_wrong : {b : _} (v : ℕ × Cursor) (w : E) → r ≡ result_from_control_flow b → b ≡ Continue v → T (leb n 31) → (v.0 ≡ m → ⊥) → w ≡ keep (wrong_at u x p v.0 m) → Err w ≡ tell keep f (bind (must x n m u s p) k)
    unfolding must
    must_wrong v w d h t vm ew = rw (ew, value_read x s p n e (went d h) t, ne_eqb v.0 m vm)

-- a field that is there only if a test holds
module _ {E A B : Type 0} (keep : Reason → E) (b c : Bool) (bc : b ≡ c) (x : Name) (s : List ℕ) (p n : ℕ) (f : A → B) (k : ℕ → ℕ → Read A) (r : Result (ℕ × Cursor) BitsError) (e : r ≡ read_bits_if b s p n) (t : T (leb n 31)) where
  pub stop_if : {b : _} {u : _} (y : Result (B × Cursor) E) → r ≡ result_from_control_flow b → b ≡ Break u → IsErrAnd y (λ w. w ≡ keep (cut_at x n s p)) → y ≡ tell keep f (bind (field_if c x n s p) k)
  unfolding read_bits_if field_if
  stop_if y d h i = go c (e ∙ rw bc)
    where
      go : (c : Bool) → r ≡ pick c (read_bits s p n) (Ok (0, record { at = p })) → y ≡ tell keep f (bind (pick c (field x n) (λ s p. read 0 p) s p) k)
      go true e = stop keep x s p n f k r e y d h t i
      go false e =
          let g : ◌≡◌ {A = Result (ℕ × Cursor) BitsError} (Err _) (Ok (0, record { at = p })) = sym (failed d h) ∙ e in
          let z : ◌≡◌ {A = ℕ} 0 1 = cc in
          absurd (omega arith)

  pub step_if : {b : _} (v : ℕ × Cursor) (y : Result (B × Cursor) E) → r ≡ result_from_control_flow b → b ≡ Continue v → y ≡ tell keep f (k v.0 v.1.at) → y ≡ tell keep f (bind (field_if c x n s p) k)
  unfolding read_bits_if field_if
  step_if v y d h m = go c (e ∙ rw bc)
    where
      go : (c : Bool) → r ≡ pick c (read_bits s p n) (Ok (0, record { at = p })) → y ≡ tell keep f (bind (pick c (field x n) (λ s p. read 0 p) s p) k)
      go true e = step keep x s p n f k r e v y d h t m
      go false e =
          let w : Ok v ≡ Ok (0, record { at = p }) = sym (went d h) ∙ e in
          let v0 : v ≡ (0, record { at = p }) = cc in
          rw v0 at m

-- it is below 2 ^ n too
pub value_if_lt : (b : Bool) (s : List ℕ) (p n : ℕ) (r : Result (ℕ × Cursor) BitsError) → r ≡ read_bits_if b s p n → T (leb n 31) → {b' : _} (v : ℕ) (d : Cursor) → r ≡ result_from_control_flow b' → b' ≡ Continue (v, d) → v < 2 ^ n
unfolding read_bits_if
value_if_lt true s p n r e t v c d h = field_lt (the "") s p n (value_read (the "") s p n e (went d h) t)
value_if_lt false s p n r e t v c d h =
    let w : ◌≡◌ {A = Result (ℕ × Cursor) BitsError} (Ok (v, c)) (Ok (0, record { at = p })) = sym (went d h) ∙ e in
    let both : ◌≡◌ {A = ℕ × Cursor} (v, c) (0, record { at = p }) = cc in
    let v0 : v ≡ 0 = ap (λ x. x.0) both in
    rw v0 (pow_pos n)

-- a value that was read is below 2 ^ n, so that it and a sum fit
module _ (s : List ℕ) (p n : ℕ) (r : Result (ℕ × Cursor) BitsError) {b : _} (v : ℕ) (c : Cursor) (e : r ≡ read_bits s p n) (d : r ≡ result_from_control_flow b) (h : b ≡ Continue (v, c)) (t : T (leb n 31)) where
  pub value_lt : v < 2 ^ n
  value_lt = field_lt (the "") s p n (value_read (the "") s p n e (went d h) t)

  pub sum_fits : (m : ℕ) → T (leb (2 ^ n + m) (2 ^ 32)) → Fits w32 (v + m)
  sum_fits m u = record { fits = omega (arith, value_lt, leb→le (2 ^ n + m) (2 ^ 32) u) }

-- the steps of a group that calls another, which answers `tell keep g m`
module _ {E A B C D : Type 0} (keep : Reason → E) (g : A → C) (m : Read A) (f : B → D) (k : A → ℕ → Read B) (r : Result (C × Cursor) E) (told : r ≡ tell keep g m) where
  pub refused : {e : E} → r ≡ Err e → Err e ≡ tell keep f (bind m k)
  refused {e} h = go m (sym h ∙ told)
    where
      go : (m : Read A) → Err e ≡ tell keep g m → Err e ≡ tell keep f (bind m k)
      go (read a p) h = let z : ◌≡◌ {A = ℕ} 0 1 = cc in absurd (omega arith)
      go (stopped w) h = let ew : e ≡ keep w = cc in rw ew

  pub group_stop : {b : _} {z : _} (y : Result (D × Cursor) E) → r ≡ result_from_control_flow b → b ≡ Break z → IsErrAnd y (λ w. w ≡ z.0) → y ≡ tell keep f (bind m k)
  group_stop y d h i = exit i (refused (failed d h))

  pub group_step : {b : _} (v : C × Cursor) (x : Result (D × Cursor) E) → r ≡ result_from_control_flow b → b ≡ Continue v → ((a : A) → v.0 ≡ g a → x ≡ tell keep f (k a v.1.at)) → x ≡ tell keep f (bind m k)
  group_step v x d h t = go m (sym (went d h) ∙ told)
    where
      go : (m : Read A) → Ok v ≡ tell keep g m → x ≡ tell keep f (bind m k)
      go (read a q) h =
          let vg : v ≡ (g a, record { at = q }) = cc in
          let pq : v.1.at ≡ q = rw vg in
          let va : v.0 ≡ g a = rw vg in
          rw (← pq) (t a va)
      go (stopped e) h = let z : ◌≡◌ {A = ℕ} 0 1 = cc in absurd (omega arith)

-- an answer whose value is altered
pub alter_over : {E A B C : Type 0} (keep : Reason → E) (g : B → C) (f : A → B) (m : Read A) → alter g (tell keep f m) ≡ tell keep (λ a. g (f a)) m
alter_over keep g f (read a p) = refl
alter_over keep g f (stopped e) = refl

-- a call of a group whose answer is handed on
pub tail : {E A B C : Type 0} (keep : Reason → E) (f : B → C) (k : A → ℕ → Read B) (g : A → C) (m : Read A) (x : Result (C × Cursor) E) → x ≡ tell keep g m → ((a : A) (p : ℕ) → tell keep g (read a p) ≡ tell keep f (k a p)) → x ≡ tell keep f (bind m k)
tail keep f k g (read a p) x e t = e ∙ t a p
tail keep f k g (stopped r) x e t = e

-- a branch that the code took, and one that it did not take
module _ {E A B : Type 0} (keep : Reason → E) (f : A → B) (a b : ℕ) (r q : Reader A) (s : List ℕ) (p : ℕ) (x : Result (B × Cursor) E) where
  pub taken : a ≡ b → x ≡ tell keep f (r s p) → x ≡ tell keep f (pick (eqb a b) r q s p)
  taken e h = rw (eq-eqb a b e) h

  pub left : (a ≡ b → ⊥) → x ≡ tell keep f (q s p) → x ≡ tell keep f (pick (eqb a b) r q s p)
  left e h = rw (ne_eqb a b e) h

  pub taken_le : a ≤ b → x ≡ tell keep f (r s p) → x ≡ tell keep f (pick (leb a b) r q s p)
  taken_le e h = rw (le-leb a b e) h

  pub left_le : b < a → x ≡ tell keep f (q s p) → x ≡ tell keep f (pick (leb a b) r q s p)
  left_le e h = rw (lt-leb a b e) h

-- a group that is there, and one that isn't
module _ {E A B C : Type 0} (keep : Reason → E) (f : A → B) (b : Bool) (d : C) (r : Reader C) (s : List ℕ) (p : ℕ) (k : C → ℕ → Read A) (x : Result (B × Cursor) E) where
  pub there : b ≡ true → x ≡ tell keep f (bind (r s p) k) → x ≡ tell keep f (bind (group_if b d r s p) k)
  unfolding group_if
  there e h = rw e h

  pub absent : b ≡ false → x ≡ tell keep f (k d p) → x ≡ tell keep f (bind (group_if b d r s p) k)
  unfolding group_if
  absent e h = rw e h

-- what walks a chain of reads and branches to each return
pub ruleset reading = (step, stop, step_if, stop_if, must_step, must_stop, must_wrong, there, absent, taken, left, taken_le, left_le)
