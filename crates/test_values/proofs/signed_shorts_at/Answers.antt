use mir.Syntax.{w16}
use mir.Facts.{to_z-of_z}
use mir.Val.{SFits}
use mathlib.Core.Path.{◌≡◌, ap, ◌∙◌}
use mathlib.Core.List.{List}
use Prim.Native.Nat.{ℕ, ◌*◌}
use native.Mathlib.Omega.{arith}
use lib.ListN.{length-set}
use borrow.Author.Rules.{rules}
use Rattle.base_shared.specs.Lists.{values_of}
use Rattle.base_shared.proofs.Values.{none, one_more_lem, all_of}
use Rattle.test_values.specs.Values.{signed_short_at, signed_shorts_at}
use Rattle.test_values.proofs.signed_shorts_at.Goals as goal

pub loop-i-init : goal.loop-i-init
loop-i-init c = (omega arith, search rules, none (λ k. signed_short_at c.rest-b.result.now (k * 3)))

pub loop-i-preserved : goal.loop-i-preserved
loop-i-preserved c =
    let l = c.loop-i in
    let f : SFits w16 c.signed_short_at.result = search rules in
    (omega arith, rw length-set l.invariant.1, one_more_lem (λ k. signed_short_at c.rest-b.result.now (k * 3)) l.out l.i _ (to_z-of_z f ∙ c.signed_short_at.ensures) (omega arith) l.invariant.2)

pub returns : goal.returns
unfolding signed_shorts_at
returns c =
    let l = c.loop-i in
    let e : l.i ≡ 32 = omega arith in
    all_of (λ k. signed_short_at c.rest-b.result.now (k * 3)) l.out l.i 32 e l.invariant.1 l.invariant.2
    ∙ ap (λ (b : List ℕ). values_of (λ k. signed_short_at b (k * 3)) 32) c.rest-b.ensures
