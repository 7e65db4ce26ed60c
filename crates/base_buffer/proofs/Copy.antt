-- The copy to the front, as the code makes it.
-- Assumes nothing.
use Prim.Native.Nat.{ℕ, ◌-◌, ◌<◌, ◌≤◌, min}
use mathlib.Core.Path.{◌≡◌, ◌∙◌}
use mathlib.Core.Logic.{⊎_elim}
use mathlib.Core.List.{List}
use native.Mathlib.Nat.{zero-add}
use native.Mathlib.Omega.{arith}
use lib.ListN.{length, take, drop}
use lib.Seq.{paste}
use Rattle.std.proofs.lemmas.Bool.{cases_lt}
use Rattle.base_buffer.specs.Front.{held, front_of, Moved}

-- a and b: where the bytes that count start and end
pub moved : (s : List ℕ) (start end : ℕ) {a b n : ℕ} {t : List ℕ} → b ≡ min end (length s) → a ≡ min start b → n ≡ b - a → t ≡ paste s 0 (drop a s) (b - a) → Moved s start end n t
unfolding front_of
moved s start end {a} {b} {n} {t} f e c m =
    let h : n ≡ held s start end = omega arith in
    let none : b ≤ start → take n (drop a s) ≡ take n (drop start s) = λ l. let z : n ≡ 0 = omega arith in rw z in
    let some : start < b → take n (drop a s) ≡ take n (drop start s) = λ l. let i : a ≡ start = omega arith in rw i in
    record { counted = h; bytes = m ∙ rw (← c, ⊎_elim some none (cases_lt start b), h, zero-add) }
