-- Readings: what stands at a place of the bytes, as a definition that the code is proved equal to.
-- Assumes nothing.
use Rattle.std.specs.Prelude.{ℕ, ◌+◌, Bool, List, eqb, Result, Ok, Err}
use Rattle.base_bits.specs.declared.Cursor.{Cursor}
use Rattle.base_bits.specs.declared.Refusal.{Refusal}
use Rattle.base_bits.specs.Bit.{number, fits}
use Rattle.base_shared.specs.Choice.{pick}
use Rattle.base_bits.specs.Refusal.{Mark, Name}
use Rattle.base_syntax.specs.Fault.{Reason, cut_at, wrong_at}

-- what a reading answers: a value and the place past it, or why it stopped
pub data Read (A : Type 0) : Type 0 where
  read : A → ℕ → Read A
  stopped : Reason → Read A

abbrev pub Reader : Type 0 → Type 0
Reader A = List ℕ → ℕ → Read A

abbrev pub give : {A : Type 0} → A → Reader A
give a s p = read a p

abbrev pub bind : {A B : Type 0} → Read A → (A → ℕ → Read B) → Read B
bind (read a p) k = k a p
bind (stopped w) k = stopped w

infixl 10 ◌>>=◌
abbrev pub ◌>>=◌ : {A B : Type 0} → Reader A → (A → Reader B) → Reader B
◌>>=◌ r k s p = bind (r s p) (λ a e. k a s e)

-- the field x, of n bits
unfoldable pub field : Name → ℕ → Reader ℕ
field x n s p = pick (fits s p n) (read (number s p n) (p + n)) (stopped (cut_at x n s p))

-- the field x, of n bits, a mark whose number must be m
unfoldable pub must : Name → ℕ → ℕ → Mark → Reader ℕ
must x n m k s p = bind (field x n s p) (λ a q. pick (eqb a m) (read a q) (stopped (wrong_at k x p a m)))

-- a syntax that is there only if b holds, and has the value d where it isn't
unfoldable pub group_if : {A : Type 0} → Bool → A → Reader A → Reader A
group_if b d r = pick b r (give d)

unfoldable pub field_if : Bool → Name → ℕ → Reader ℕ
field_if b x n = pick b (field x n) (give 0)

-- what is answered to a reading: what f makes of the value, and the place past it, or what `keep` keeps of the reason
abbrev pub tell : {E A B : Type 0} → (Reason → E) → (A → B) → Read A → Result (B × Cursor) E
tell keep f (read a p) = Ok (f a, record { at = p })
tell keep f (stopped w) = Err (keep w)

-- the code's answer keeps the refusal
abbrev pub said : Reason → Refusal
said w = w.refusal

-- what the code answers to a reading
abbrev pub over : {A B : Type 0} → (A → B) → Read A → Result (B × Cursor) Refusal
over f m = tell said f m

-- an answer with what g makes of its value
abbrev pub alter : {E A B : Type 0} → (A → B) → Result (A × Cursor) E → Result (B × Cursor) E
alter g (Ok x) = Ok (g x.0, x.1)
alter g (Err e) = Err e
