use mathlib.Core.Path.{◌≡◌, refl}
use mathlib.Core.Bool.{Bool, true, false, cond}
use Prim.Native.Nat.{ℕ, suc, ◌-◌}
use native.Mathlib.Omega.{arith}
use lib.Dec.{T, ltb, ltb→lt}
use lib.IntN.{ℤ, pos, negsuc, nat_abs, ◌+ℤ◌}
use lib.Signed.{non_neg}
use mir.Syntax.{w16, w32}
use mir.Val.{Fits, SFits}
use mir.Facts.{to_z-of_z, sfits_widen}
use Rattle.text_signed.specs.Number.{lifted}
use Rattle.text_signed.proofs.lift.Goals as goal

-- what is left where 65,536 is added, fits 32 bits, with a sign and without, and is the number lifted
abbrev Raised : ℤ → ℕ → Type 0
Raised z n = SFits w32 z × (T (non_neg z) × Fits w32 (nat_abs z)) × (nat_abs z ≡ n)

below : (n : ℕ) (t : Bool) → SFits w16 (negsuc n) → ltb 65536 (suc n) ≡ t → Raised (cond t (negsuc (suc n - 65537)) (pos (65536 - suc n))) (65536 - suc n)
below n true f e = absurd (omega (arith, f.sfits, ltb→lt 65536 (suc n) (rw e tt)))
below n false f e = (record { sfits = omega arith }, (tt, record { fits = omega arith }), refl)

raised : (z : ℤ) → SFits w16 z → Raised (z +ℤ pos 65536) (lifted z)
raised (pos n) f = (record { sfits = omega (arith, f.sfits) }, (tt, record { fits = omega (arith, f.sfits) }), omega arith)
raised (negsuc n) f = below n (ltb 65536 (suc n)) f refl

pub overflow_cast-result : goal.overflow_cast-result
overflow_cast-result c = let f = c.ranges.n in rw (to_z-of_z f) (sfits_widen tt f)

pub overflow_add-result : goal.overflow_add-result
overflow_add-result c =
    let f = c.ranges.n in
    let g : SFits w32 c.args.n = sfits_widen tt f in
    rw (to_z-of_z f, to_z-of_z g) (raised c.args.n f).0

pub overflow_cast-result-2 : goal.overflow_cast-result-2
overflow_cast-result-2 c =
    let f = c.ranges.n in
    let g : SFits w32 c.args.n = sfits_widen tt f in
    let r = raised c.args.n f in
    rw (to_z-of_z f, to_z-of_z g, to_z-of_z r.0) r.1

pub returns : goal.returns
returns c =
    let f = c.ranges.n in
    let g : SFits w32 c.args.n = sfits_widen tt f in
    let r = raised c.args.n f in
    rw (to_z-of_z f, to_z-of_z g, to_z-of_z r.0) r.2
