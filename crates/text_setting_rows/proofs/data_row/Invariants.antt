use mathlib.Core.Path.{◌≡◌}
use Prim.Native.Nat.{◌≤◌}
use lib.ListN.{length, take}
use Rattle.base_shared.specs.Lists.{values_of}
use Rattle.text_signed.specs.Number.{lifted_in}
use Rattle.text_setting_rows.proofs.data_row.Given as goal

abbrev pub invariant-loop-i : goal.invariant-loop-i
invariant-loop-i l = (l.i ≤ 32) × (length l.out ≡ 32) × (take l.i l.out ≡ values_of (lifted_in l.s) l.i)
