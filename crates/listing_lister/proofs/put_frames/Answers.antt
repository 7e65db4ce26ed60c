use Prim.Native.Nat.{◌≤◌}
use mathlib.Core.Path.{◌≡◌, refl}
use native.Mathlib.Omega.{arith}
use lib.ListN.{length}
use borrow.Author.Rules.{rules}
use Rattle.base_shared.proofs.Each.{length_mapped}
use Rattle.listing_lister.proofs.Lines.{no_frame_lem, frame_put, frame_more}
use Rattle.listing_lister.proofs.put_frames.Goals as goal

pub loop-i-init : goal.loop-i-init
loop-i-init c =
    let a = c.args in
    let eight : length a.read.headers ≡ 8 = search (rules, length_mapped) in
    let few : a.count ≤ 8 = search rules in
    (omega arith, omega arith, refl, no_frame_lem _ _ _)

pub loop-i-preserved : goal.loop-i-preserved
loop-i-preserved c =
    let l = c.loop-i in
    let a = c.args in
    (omega arith, l.invariant.1, search rules, frame_more _ _ l.invariant.3 (frame_put a.chunk a.read.at a.read.size a.read.headers l.i _ (omega arith) c.frame_line-next.ensures))

pub returns : goal.returns
returns c =
    let z : c.loop-i.i ≡ c.args.count = omega arith in
    rw z at c.loop-i.invariant.3
