use mathlib.Core.Path.{◌≡◌, ◌∙◌}
use Prim.Native.Nat.{◌+◌, ◌-◌}
use native.Mathlib.Nat.{add-zero, sub-zero}
use native.Mathlib.Omega.{arith}
use Rattle.base_little.proofs.Bytes.{little_more, little_none, room_left_lem, room_more, room_none}
use Rattle.base_little.proofs.gather.Goals as goal

pub loop-k-init : goal.loop-k-init
loop-k-init c = (room_none c.args.n, little_none _ _ _)

pub overflow_mul-sum : goal.overflow_mul-sum
overflow_mul-sum c =
    let left = room_left_lem c.args.n c.loop-k.k c.requires.0 c.loop-k-test.true in
    omega arith

pub overflow_add-sum : goal.overflow_add-sum
overflow_add-sum c =
    let left = room_left_lem c.args.n c.loop-k.k c.requires.0 c.loop-k-test.true in
    let byte = c.type_inv.s (c.args.at + (c.loop-k.k - 1)) in
    omega arith

pub loop-k-preserved : goal.loop-k-preserved
loop-k-preserved c =
    let a = c.args in
    let m = c.loop-k.k in
    let byte = c.type_inv.s (a.at + (m - 1)) in
    let more = room_more a.n m c.loop-k-test.true c.loop-k.auto.k in
    let next = little_more a.s.now a.at a.n m c.loop-k-test.true c.loop-k.auto.k in
    (omega (arith, more), omega (arith, next))

pub returns : goal.returns
returns c =
    let z : c.loop-k.k ≡ 0 = omega arith in
    c.loop-k.invariant.1 ∙ rw (z, add-zero, sub-zero)
