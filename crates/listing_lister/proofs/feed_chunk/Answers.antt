use Prim.Native.Nat.{◌+◌, ◌-◌}
use Rattle.ivf_walk.specs.declared.Event.TheVariants.{Data}
use Rattle.listing_lister.specs.Feed.{read_of}
use mathlib.Core.Path.{◌≡◌, refl, ◌∙◌}
use native.Mathlib.Omega.{arith}
use borrow.Author.Rules.{rules}
use Rattle.listing_lister.proofs.Few.{few_frames}
use Rattle.listing_lister.proofs.feed_chunk.Goals as goal

pub put_chunk-next-requires : goal.put_chunk-next-requires
put_chunk-next-requires c = rw c.parse_chunk-read.ensures (few_frames _ _)

pub returns : goal.returns
returns c =
    let a = c.args in
    let e : a.turn.event ≡ Data a.n = search rules in
    let z : 12 + a.n - 12 ≡ a.n = omega arith in
    let r : c.parse_chunk-read.result ≡ read_of a.lister a.s.now a.n = c.parse_chunk-read.ensures ∙ rw z in
    record {
      lister = rw (e, ← r) c.after_chunk.ensures;
      used = refl;
      wants = rw e;
      text = rw (e, ← r) c.put_chunk-next.ensures;
    }
