use mathlib.Core.Path.{◌≡◌, ap, ◌∙◌}
use mathlib.Core.List.{List}
use Prim.Native.Nat.{ℕ}
use native.Mathlib.Omega.{arith}
use lib.ListN.{length-set}
use borrow.Author.Rules.{rules}
use Rattle.base_shared.specs.Lists.{values_of}
use Rattle.base_shared.proofs.Values.{none, one_more_lem, all_of}
use Rattle.test_values.specs.Values.{flag_at, flags_at}
use Rattle.test_values.proofs.flags_at.Goals as goal

pub loop-i-init : goal.loop-i-init
loop-i-init c = (omega arith, search rules, none (flag_at c.rest-b.result.now))

pub loop-i-preserved : goal.loop-i-preserved
loop-i-preserved c =
    let l = c.loop-i in
    (omega arith, rw length-set l.invariant.1, one_more_lem (flag_at c.rest-b.result.now) l.out l.i _ c.flag_at.ensures (omega arith) l.invariant.2)

pub returns : goal.returns
unfolding flags_at
returns c =
    let l = c.loop-i in
    let e : l.i ≡ 32 = omega arith in
    all_of (flag_at c.rest-b.result.now) l.out l.i 32 e l.invariant.1 l.invariant.2
    ∙ ap (λ (b : List ℕ). values_of (flag_at b) 32) c.rest-b.ensures
