use mathlib.Core.Logic.{inl, inr}
use native.Mathlib.Omega.{arith}
use Rattle.std.proofs.lemmas.Result.{err_from_is_err_and}
use Rattle.chunk_frame.proofs.Steps.{placed_out, placed_in}
use Rattle.chunk_frame.proofs.parse_frame.Goals.{
  then-offset-chunk-via-then-offset-chunk,
  then-offset-chunk-via-else-offset-chunk+then-size-chunk,
}
use Rattle.chunk_frame.proofs.parse_frame.Goals as goal

pub returns-then-offset-chunk-clause-told : goal.returns-then-offset-chunk-clause-told
returns-then-offset-chunk-clause-told c =
    placed_out _ _ _ _ (elim c.then-offset-chunk.branch [
      | then-offset-chunk-via-then-offset-chunk w ↦ inl w.if-offset-chunk.true
      | then-offset-chunk-via-else-offset-chunk+then-size-chunk w ↦ inr w.if-size-chunk.true
    ])

pub returns-in_err-parse_frame_header-clause-told : goal.returns-in_err-parse_frame_header-clause-told
returns-in_err-parse_frame_header-clause-told c =
    let p = err_from_is_err_and c.from_residual.result c.from_residual.ensures.1 in
    rw (p.1, p.2) (placed_in _ _ _ _ _ (omega arith) (omega arith) c.in_err-parse_frame_header.ensures.told)

pub returns-clause-told : goal.returns-clause-told
returns-clause-told c = placed_in _ _ _ _ _ (omega arith) (omega arith) c.in_ok-parse_frame_header.ensures.told
