-- What a caller learns of a field, as steps along its own reading.
-- Assumes nothing.
use Prim.Native.Nat.{ℕ, ◌+◌, ◌<◌, ◌^◌}
use mathlib.Core.Path.{◌≡◌, refl, sym, ap, ◌∙◌}
use mathlib.Core.Bool.{Bool, true, false}
use mathlib.Core.List.{List}
use native.Mathlib.Omega.{arith}
use lib.Dec.{T, leb, leb→le}
use lib.Pow.{pow_pos}
use borrow.Author.Tests.{eq-eqb, ne_eqb}
use mir.Val.{Fits}
use mir.Syntax.{w32}
use Rattle.std.specs.Prelude.{Result, Ok, Err}
use Rattle.std.specs.Result.{IsErrAnd, result_from_control_flow}
use Rattle.std.proofs.Common.{Continue, Break}
use Rattle.std.proofs.lemmas.Result.{err_from_is_err_and}
use Rattle.base_shared.specs.Choice.{pick}
use Rattle.base_bits.specs.declared.BitsError.{BitsError}
use Rattle.base_bits.specs.declared.Cursor.{Cursor}
use Rattle.base_bits.specs.declared.Refusal.{Refusal}
use Rattle.base_bits.specs.declared.Refusal.TheVariants.{PastEnd}
use Rattle.base_bits.specs.Refusal.{Mark, Name, the}
use Rattle.base_bits.specs.Read.{read_bits, read_bits_if}
use Rattle.base_syntax.specs.Fault.{cut_at, wrong_at}
use Rattle.base_syntax.specs.Reader.{Read, read, stopped, bind, tell, said, field, must, field_if}
use Rattle.base_syntax.proofs.Steps.{value_read, short_read, field_lt, there, absent, taken, left, taken_le, left_le}
use Rattle.part_field.specs.PastEnd.{past_end}

-- a field that was read is a bit read that gave its value; one that wasn't, a bit read that gave none, and is refused by 6
was_ok : {A : Type 0} (m : Result A BitsError) {v : A} → Ok v ≡ past_end m → m ≡ Ok v
was_ok (Ok u) {v} h = let uv : u ≡ v = cc in rw uv
was_ok (Err e) h = let z : ◌≡◌ {A = ℕ} 0 1 = cc in absurd (omega arith)

was_err : {A : Type 0} (m : Result A BitsError) {w : Refusal} → Err w ≡ past_end m → (u : BitsError) × (m ≡ Err u) × (w ≡ PastEnd)
was_err (Ok u) h = let z : ◌≡◌ {A = ℕ} 0 1 = cc in absurd (omega arith)
was_err (Err e) h = (e, refl, cc)

-- a field of at most 31 bits that gave a value, and one that didn't
pub field_read : (x : Name) (s : List ℕ) (p n : ℕ) {r : Result (ℕ × Cursor) Refusal} {v : ℕ × Cursor} → r ≡ past_end (read_bits s p n) → r ≡ Ok v → T (leb n 31) → field x n s p ≡ read v.0 v.1.at
field_read x s p n e w t = value_read x s p n refl (was_ok (read_bits s p n) (sym w ∙ e)) t

pub field_short : (x : Name) (s : List ℕ) (p n : ℕ) (r : Result (ℕ × Cursor) Refusal) (u : Refusal) → r ≡ past_end (read_bits s p n) → r ≡ Err u → T (leb n 31) → (field x n s p ≡ stopped (cut_at x n s p)) × (u ≡ PastEnd)
field_short x s p n r u e w t =
    let f = was_err (read_bits s p n) (sym w ∙ e) in
    (short_read x s p n (read_bits s p n) f.0 refl f.1 t, f.2)

-- what a `?` learns of the call before it, and what it returns where that call failed
went : {A E : Type 0} {r : Result A E} {b : _} {v : A} → r ≡ result_from_control_flow b → b ≡ Continue v → r ≡ Ok v
went h w = rw w at h

failed : {A E : Type 0} {r : Result A E} {b : _} {z : _} → r ≡ result_from_control_flow b → b ≡ Break z → r ≡ Err z.0
failed h w = rw w at h

exit : {E A : Type 0} {y : Result A E} {w : E} {x : Result A E} → IsErrAnd y (λ e. e ≡ w) → Err w ≡ x → y ≡ x
exit {y = y} h e = let p = err_from_is_err_and y h in rw (p.1, p.2) e

-- the same as steps along a reading, whose answer keeps the refusal: `search reading` walks a chain of fields
module _ {A B : Type 0} (x : Name) (s : List ℕ) (p n : ℕ) (f : A → B) (k : ℕ → ℕ → Read A) (r : Result (ℕ × Cursor) Refusal) (e : r ≡ past_end (read_bits s p n)) where
  pub stop : {b : _} {z : _} (y : Result (B × Cursor) Refusal) → r ≡ result_from_control_flow b → b ≡ Break z → T (leb n 31) → IsErrAnd y (λ w. w ≡ z.0) → y ≡ tell said f (bind (field x n s p) k)
  stop y d h t i = let c = field_short x s p n r _ e (failed d h) t in exit i (rw (c.0, c.1))

  pub step : {b : _} (v : ℕ × Cursor) (y : Result (B × Cursor) Refusal) → r ≡ result_from_control_flow b → b ≡ Continue v → T (leb n 31) → y ≡ tell said f (k v.0 v.1.at) → y ≡ tell said f (bind (field x n s p) k)
  step v y d h t m = rw (field_read x s p n e (went d h) t) m

  -- and where the number must be m
  module _ (m : ℕ) (u : Mark) where
    pub must_stop : {b : _} {z : _} (y : Result (B × Cursor) Refusal) → r ≡ result_from_control_flow b → b ≡ Break z → T (leb n 31) → IsErrAnd y (λ w. w ≡ z.0) → y ≡ tell said f (bind (must x n m u s p) k)
    unfolding must
    must_stop y d h t i = let c = field_short x s p n r _ e (failed d h) t in exit i (rw (c.0, c.1))

    pub must_step : {b : _} (v : ℕ × Cursor) (y : Result (B × Cursor) Refusal) → r ≡ result_from_control_flow b → b ≡ Continue v → T (leb n 31) → v.0 ≡ m → y ≡ tell said f (k v.0 v.1.at) → y ≡ tell said f (bind (must x n m u s p) k)
    unfolding must
    must_step v y d h t vm z = rw (field_read x s p n e (went d h) t, eq-eqb v.0 m vm) z

    pub must_wrong : {b : _} (v : ℕ × Cursor) (w : Refusal) → r ≡ result_from_control_flow b → b ≡ Continue v → T (leb n 31) → (v.0 ≡ m → ⊥) → w ≡ said (wrong_at u x p v.0 m) → Err w ≡ tell said f (bind (must x n m u s p) k)
    unfolding must
    must_wrong v w d h t vm ew = rw (ew, field_read x s p n e (went d h) t, ne_eqb v.0 m vm)

-- a field that is there only if a test holds
module _ {A B : Type 0} (b c : Bool) (bc : b ≡ c) (x : Name) (s : List ℕ) (p n : ℕ) (f : A → B) (k : ℕ → ℕ → Read A) (r : Result (ℕ × Cursor) Refusal) (e : r ≡ past_end (read_bits_if b s p n)) (t : T (leb n 31)) where
  pub stop_if : {b : _} {z : _} (y : Result (B × Cursor) Refusal) → r ≡ result_from_control_flow b → b ≡ Break z → IsErrAnd y (λ w. w ≡ z.0) → y ≡ tell said f (bind (field_if c x n s p) k)
  unfolding read_bits_if field_if
  stop_if y d h i = go c (e ∙ rw bc)
    where
      go : (c : Bool) → r ≡ past_end (pick c (read_bits s p n) (Ok (0, record { at = p }))) → y ≡ tell said f (bind (pick c (field x n) (λ s p. read 0 p) s p) k)
      go true e = stop x s p n f k r e y d h t i
      go false e =
          let g : ◌≡◌ {A = Result (ℕ × Cursor) Refusal} (Err _) (Ok (0, record { at = p })) = sym (failed d h) ∙ e in
          let z : ◌≡◌ {A = ℕ} 0 1 = cc in
          absurd (omega arith)

  pub step_if : {b : _} (v : ℕ × Cursor) (y : Result (B × Cursor) Refusal) → r ≡ result_from_control_flow b → b ≡ Continue v → y ≡ tell said f (k v.0 v.1.at) → y ≡ tell said f (bind (field_if c x n s p) k)
  unfolding read_bits_if field_if
  step_if v y d h m = go c (e ∙ rw bc)
    where
      go : (c : Bool) → r ≡ past_end (pick c (read_bits s p n) (Ok (0, record { at = p }))) → y ≡ tell said f (bind (pick c (field x n) (λ s p. read 0 p) s p) k)
      go true e = step x s p n f k r e v y d h t m
      go false e =
          let w : Ok v ≡ Ok (0, record { at = p }) = sym (went d h) ∙ e in
          let v0 : v ≡ (0, record { at = p }) = cc in
          rw v0 at m

-- it is below 2 ^ n too
pub value_if_lt : (b : Bool) (s : List ℕ) (p n : ℕ) (r : Result (ℕ × Cursor) Refusal) → r ≡ past_end (read_bits_if b s p n) → T (leb n 31) → {b' : _} (v : ℕ) (d : Cursor) → r ≡ result_from_control_flow b' → b' ≡ Continue (v, d) → v < 2 ^ n
unfolding read_bits_if
value_if_lt true s p n r e t v c d h = field_lt (the "") s p n (field_read (the "") s p n e (went d h) t)
value_if_lt false s p n r e t v c d h =
    let w : ◌≡◌ {A = Result (ℕ × Cursor) Refusal} (Ok (v, c)) (Ok (0, record { at = p })) = sym (went d h) ∙ e in
    let both : ◌≡◌ {A = ℕ × Cursor} (v, c) (0, record { at = p }) = cc in
    let v0 : v ≡ 0 = ap (λ x. x.0) both in
    rw v0 (pow_pos n)

-- a value that was read is below 2 ^ n, so that it and a sum fit
module _ (s : List ℕ) (p n : ℕ) (r : Result (ℕ × Cursor) Refusal) {b : _} (v : ℕ) (c : Cursor) (e : r ≡ past_end (read_bits s p n)) (d : r ≡ result_from_control_flow b) (h : b ≡ Continue (v, c)) (t : T (leb n 31)) where
  pub value_lt : v < 2 ^ n
  value_lt = field_lt (the "") s p n (field_read (the "") s p n e (went d h) t)

  pub sum_fits : (m : ℕ) → T (leb (2 ^ n + m) (2 ^ 32)) → Fits w32 (v + m)
  sum_fits m u = record { fits = omega (arith, value_lt, leb→le (2 ^ n + m) (2 ^ 32) u) }

-- what walks a chain of fields and branches to each return
pub ruleset reading = (step, stop, step_if, stop_if, must_step, must_stop, must_wrong, there, absent, taken, left, taken_le, left_le)
