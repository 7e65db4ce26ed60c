use mathlib.Core.Path.{refl}
use native.Mathlib.Omega.{arith}
use Rattle.chunk_choice.proofs.Parts.{starts_outside, ends_outside, lies_inside}
use Rattle.chunk_choice.proofs.part.Goals as goal

pub returns-then-offset-s : goal.returns-then-offset-s
returns-then-offset-s c = starts_outside _ _ _ _ c.if-offset-s.true refl refl

pub returns-then-size-s : goal.returns-then-size-s
returns-then-size-s c = ends_outside _ _ _ _ c.if-size-s.true refl refl

pub returns : goal.returns
returns c = lies_inside _ _ _ _ (omega arith) (omega arith) refl refl
