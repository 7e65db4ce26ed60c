-- A field is read exactly if its number is in range and spelled there; and answers that have one view are one.
-- Assumes nothing.
use Prim.Native.Nat.{ℕ, ◌+◌, ◌<◌, ◌^◌}
use mathlib.Core.Path.{◌≡◌, sym, ap, ◌∙◌}
use mathlib.Core.Logic.{◌↔◌}
use mathlib.Core.List.{List, append-nil}
use native.Mathlib.Nat.{add-zero}
use Rattle.base_bits.specs.Bit.{Stands, spell}
use Rattle.base_bits.specs.Refusal.{Name}
use Rattle.base_syntax.specs.Reader.{read, field}
use Rattle.base_syntax.proofs.Laws.{field_reads}

-- v is read exactly if v is in range and its n bits stand there
pub reads_exactly : (x : Name) (s : List ℕ) (p n v : ℕ) → (field x n s p ≡ read v (p + n)) ↔ ((v < 2 ^ n) × Stands s p (spell n v))
reads_exactly x s p n v = (
  λ h. let m = (field_reads {x = x}).sound s p v (p + n) h in (m.1.ranged.0.0, rw append-nil at m.1.stands),
  λ h. (rw add-zero at ((field_reads {x = x}).complete s p v tt (record { ranged = ((h.0, tt), tt); stands = rw append-nil h.1 }))),
)

-- an answer is fixed by what its view is, where an answer can be had back from a view
pub one_of : {R G : Type 0} (view : R → G) (answer : G → R) → ((r : R) → answer (view r) ≡ r) → (r q : R) (x : G) → view r ≡ x → view q ≡ x → r ≡ q
one_of view answer back r q x h k = sym (back r) ∙ ap answer (h ∙ sym k) ∙ back q
