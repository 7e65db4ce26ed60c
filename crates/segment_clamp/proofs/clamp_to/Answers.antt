use native.Mathlib.Omega.{arith}
use mir.Facts.{to_z-of_z}
use Rattle.segment_clamp.proofs.Casts.{byte}
use Rattle.segment_clamp.proofs.Ranges.{clamp_low, clamp_high, clamp_mid, between}
use Rattle.segment_clamp.proofs.clamp_to.Goals as goal

pub overflow_cast-result : goal.overflow_cast-result
overflow_cast-result c =
    let x = to_z-of_z c.ranges.x in
    let (whole, small) = between c.args.hi c.args.x (rw x at c.if-x-lt0.false) (rw (x, byte c.ranges.hi) at c.if-hi-x.false) in
    rw x (whole, record { fits = omega arith })

pub returns-then-x-lt0 : goal.returns-then-x-lt0
returns-then-x-lt0 c = clamp_low _ _ (rw (to_z-of_z c.ranges.x) at c.if-x-lt0.true)

pub returns-then-hi-x : goal.returns-then-hi-x
returns-then-hi-x c =
    let x = to_z-of_z c.ranges.x in
    clamp_high _ _ (rw x at c.if-x-lt0.false) (rw (x, byte c.ranges.hi) at c.if-hi-x.true)

pub returns-else-hi-x : goal.returns-else-hi-x
returns-else-hi-x c =
    let x = to_z-of_z c.ranges.x in
    rw x (clamp_mid _ _ (rw x at c.if-x-lt0.false) (rw (x, byte c.ranges.hi) at c.if-hi-x.false))
