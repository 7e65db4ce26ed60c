use Prim.Native.Nat.{◌+◌, ◌-◌}
use mathlib.Core.Path.{◌≡◌, ◌∙◌}
use native.Mathlib.Omega.{arith}
use lib.ListN.{take, drop}
use Rattle.chunk_parser.specs.Answer.{chunk_of}
use Rattle.listing_tracer.proofs.Steps.{data_by}
use Rattle.listing_tracer.proofs.data_item.Goals as goal

pub returns : goal.returns
returns c =
    let a = c.args in
    let z : 12 + a.n - 12 ≡ a.n = omega arith in
    let r : c.parse_chunk-read.result ≡ chunk_of (take a.n (drop 12 a.s.now)) a.tracer.state = c.parse_chunk-read.ensures ∙ rw z in
    c.chunk_item.ensures ∙ data_by a.tracer a.s.now a.turn a.n c.parse_chunk-read.result r
