use mir.Facts.{to_z-of_z}
use mir.Syntax.{w16}
use Rattle.segment_clamp.proofs.Casts.{given}
use Rattle.segment_levels.proofs.Bounds.{both_fit}
use Rattle.segment_levels.proofs.both.Goals as goal

pub overflow_add-result : goal.overflow_add-result
overflow_add-result c =
    let f = c.ranges in
    let r = c.scale in
    let m = c.scale-2 in
    rw (given w16 r.type_inv r.ensures, given w16 m.type_inv m.ensures, to_z-of_z f.reference, to_z-of_z f.mode)
    (both_fit f.frame f.reference f.mode)

pub returns : goal.returns
returns c =
    let f = c.ranges in
    let r = c.scale in
    let m = c.scale-2 in
    rw (
      given w16 r.type_inv r.ensures,
      given w16 m.type_inv m.ensures,
      to_z-of_z f.reference,
      to_z-of_z f.mode,
      to_z-of_z (both_fit f.frame f.reference f.mode),
    )
