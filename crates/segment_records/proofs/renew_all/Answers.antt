use mathlib.Core.Path.{refl, sym, ◌∙◌}
use Prim.Native.Nat.{◌<◌, ◌≤◌}
use native.Mathlib.Omega.{arith}
use borrow.Author.Rules.{rules}
use lib.ListN.{length, length-set}
use Rattle.segment_records.specs.Once.{segment_at}
use Rattle.base_shared.proofs.Each.{each_step, each_end, length_mapped}
use Rattle.segment_records.proofs.renew_all.Goals as goal

pub loop-i-init : goal.loop-i-init
loop-i-init c = (omega arith, search (rules, length_mapped), refl)

pub returns : goal.returns
returns c =
    let h : length c.loop-i.out ≤ c.loop-i.i = omega arith in
    sym (each_end _ _ _ h) ∙ c.loop-i.invariant.2

pub loop-i-preserved : goal.loop-i-preserved
unfolding segment_at
loop-i-preserved c =
    let f = c.features_of-f in
    let grid = c.frame_levels-grid in
    let scales = c.scales_at-scales in
    let h : c.loop-i.i < length c.loop-i.out = omega arith in (
      omega arith,
      rw length-set c.loop-i.invariant.1,
      rw (c.renew.ensures, f.ensures, grid.ensures, scales.ensures) (sym (each_step _ _ _ _ h) ∙ c.loop-i.invariant.2),
    )
