-- Bytes that stand at a place, compared one by one and as a part of the file.
-- Assumes nothing.
use Prim.Native.Nat.{ℕ, ◌+◌, ◌≤◌, ◌<◌}
use mathlib.Core.Path.{◌≡◌, refl}
use mathlib.Core.Bool.{Bool, true, false, ◌&&◌}
use mathlib.Core.List.{List, [], ◌∷◌}
use native.Mathlib.Numerals.{add-one}
use native.Mathlib.Omega.{arith}
use lib.Dec.{eqb}
use lib.ListN.{length, get_or, take, drop}
use lib.Seq.{drop-cons}
use borrow.Author.Tests.{eq-eqb, eqb-true}
use Rattle.ivf_file.specs.File.{stands_at}

both : (a b : Bool) → (a && b) ≡ true → (a ≡ true) × (b ≡ true)
both true true h = (refl, refl)
both true false h = (refl, h)
both false b h = (h, absurd (let z : ◌≡◌ {A = ℕ} 0 1 = cc in omega arith))

-- the part of the file is those bytes
pub stands_part : (s : List ℕ) (at : ℕ) (bs : List ℕ) → at + length bs ≤ length s → stands_at s at bs ≡ true → take (length bs) (drop at s) ≡ bs
unfolding stands_at
stands_part s at [] h e = refl
stands_part s at (b ∷ bs) h e =
    let l : at < length s = omega arith in
    let k = both (eqb (get_or s at 0) b) (stands_at s (at + 1) bs) e in
    let first : get_or s at 0 ≡ b = eqb-true _ _ k.0 in
    let others : take (length bs) (drop (at + 1) s) ≡ bs = stands_part s (at + 1) bs (omega arith) k.1 in
    rw (drop-cons s at 0 l, ← add-one, first, others)

pub part_stands : (s : List ℕ) (at : ℕ) (bs : List ℕ) → at + length bs ≤ length s → take (length bs) (drop at s) ≡ bs → stands_at s at bs ≡ true
unfolding stands_at
part_stands s at [] h e = refl
part_stands s at (b ∷ bs) h e =
    let l : at < length s = omega arith in
    let k : (get_or s at 0 ∷ take (length bs) (drop (at + 1) s)) ≡ (b ∷ bs) = rw (drop-cons s at 0 l, ← add-one) at e in
    let first : get_or s at 0 ≡ b = cc in
    let others : take (length bs) (drop (at + 1) s) ≡ bs = cc in
    rw (eq-eqb _ _ first, part_stands s (at + 1) bs (omega arith) others)
