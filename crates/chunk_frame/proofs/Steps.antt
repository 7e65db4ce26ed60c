-- What is answered to a frame by where it lies.
-- Assumes nothing.
use Prim.Native.Nat.{ℕ, ◌+◌, ◌-◌, ◌<◌, ◌≤◌}
use mathlib.Core.Path.{◌≡◌}
use mathlib.Core.Logic.{⊎_elim}
use mathlib.Core.List.{List}
use native.Mathlib.Omega.{arith}
use lib.ListN.{length, take, drop}
use borrow.Author.Tests.{le-leb, lt-leb}
use Rattle.base_shared.proofs.Order.{below}
use Rattle.base_types.specs.declared.state.ReaderState.{ReaderState}
use Rattle.header_verdict.specs.Verdict.{Outside}
use Rattle.header_answer.specs.Answer.{HeaderRead}
use Rattle.header_parser.specs.Answer.{parsed}
use Rattle.chunk_frame.specs.Place.{refused_frame, inside_frame, frame_placed}
use Rattle.chunk_frame.specs.Demand.{LiesOutside}

module _ (chunk : List ℕ) (offset size : ℕ) (st : ReaderState) where
  pub placed_out : LiesOutside chunk offset size → refused_frame Outside st ≡ frame_placed chunk offset size st
  unfolding frame_placed
  placed_out o = ⊎_elim far (λ h. ⊎_elim far (λ l. simp (le-leb offset (length chunk) l, lt-leb size (length chunk - offset) h)) (below (length chunk) offset)) o
    where
      far : length chunk < offset → refused_frame Outside st ≡ frame_placed chunk offset size st
      far h = simp (lt-leb offset (length chunk) h)

  pub placed_in : (r : HeaderRead) → offset ≤ length chunk → size ≤ length chunk - offset → r ≡ parsed (take (offset + size - offset) (drop offset chunk)) st
      → inside_frame r ≡ frame_placed chunk offset size st
  unfolding frame_placed
  placed_in r l h er =
      let n : offset + size - offset ≡ size = omega arith in
      simp (le-leb offset (length chunk) l, le-leb size (length chunk - offset) h) (rw (er, n))
