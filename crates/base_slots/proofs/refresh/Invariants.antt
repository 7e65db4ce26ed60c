use borrow.Author.Rules.{rules}
use mathlib.Core.Path.{◌≡◌, refl, sym, ◌∙◌}
use Prim.Native.Nat.{◌-◌, ◌<◌, ◌≤◌}
use native.Mathlib.Omega.{arith}
use lib.ListN.{length, length-set}
use Rattle.base_shared.specs.Lists.{each}
use Rattle.base_slots.specs.Slots.{slot_after}
use Rattle.base_shared.proofs.Each.{done, each_step, each_end, length_mapped}
use Rattle.base_slots.proofs.refresh.Given as goal

abbrev pub invariant-loop-i : goal.invariant-loop-i
invariant-loop-i l = (l.i ≤ 8)
    × (length l.out ≡ 8)
    × (done (slot_after l.flags l.new) l.i l.out ≡ each (slot_after l.flags l.new) 0 l.initial.out)
