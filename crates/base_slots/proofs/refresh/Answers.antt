use borrow.Author.Rules.{rules}
use mathlib.Core.Path.{◌≡◌, refl, sym, ◌∙◌}
use Prim.Native.Nat.{◌-◌, ◌<◌, ◌≤◌}
use native.Mathlib.Omega.{arith}
use lib.ListN.{length, length-set}
use Rattle.base_shared.specs.Lists.{each}
use Rattle.base_slots.specs.Slots.{slot_after}
use Rattle.base_shared.proofs.Each.{done, each_step, each_end, length_mapped}
use Rattle.base_slots.proofs.refresh.Goals as goal

pub loop-i-init : goal.loop-i-init
loop-i-init c = (omega arith, search (rules, length_mapped), refl)

pub loop-i-preserved : goal.loop-i-preserved
loop-i-preserved c =
    let h : c.loop-i.i < length c.loop-i.out = omega arith in
    (omega arith, rw length-set c.loop-i.invariant.1, rw c.slot_after.ensures (sym (each_step _ _ _ _ h) ∙ c.loop-i.invariant.2))

pub returns : goal.returns
returns c =
    let h : length c.loop-i.out ≤ c.loop-i.i = omega arith in
    sym (each_end _ _ _ h) ∙ c.loop-i.invariant.2
