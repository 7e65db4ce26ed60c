use Prim.Native.Nat.{◌+◌, ◌*◌}
use mathlib.Core.Path.{◌≡◌, refl, ◌∙◌}
use native.Mathlib.Omega.{arith}
use mir.Facts.{Fits-widen}
use Rattle.base_bits.specs.Bit.{number}
use Rattle.base_bits.proofs.Number.{number_under}
use Rattle.base_bits.proofs.Gather.{one_byte_more}
use Rattle.base_bits.proofs.whole_bytes.Goals as goal

pub loop-k-init : goal.loop-k-init
unfolding number
loop-k-init c = (omega arith, refl)

pub overflow_mul-v : goal.overflow_mul-v
overflow_mul-v c = let a = c.args in omega (arith, number_under a.s.now (8 * a.q) {n = 8 * c.loop-k.k} {m = 32} (omega arith))

pub overflow_cast-v : goal.overflow_cast-v
overflow_cast-v c = let byte = c.type_inv.s (c.args.q + c.loop-k.k) in Fits-widen tt byte

pub overflow_add-v-in-loop-k : goal.overflow_add-v-in-loop-k
overflow_add-v-in-loop-k c =
    let a = c.args in
    let k = c.loop-k.k in
    let byte = c.type_inv.s (a.q + k) in
    omega (arith, number_under a.s.now (8 * a.q) {n = 8 * k} {m = 32} (omega arith))

pub loop-k-preserved : goal.loop-k-preserved
loop-k-preserved c =
    let a = c.args in
    let k = c.loop-k.k in
    let byte = c.type_inv.s (a.q + k) in
    (omega arith, omega (arith, one_byte_more a.s.now a.q k (omega arith)))

pub returns : goal.returns
returns c = let e : c.loop-k.k ≡ c.args.count = omega arith in c.loop-k.invariant.1 ∙ rw e
