-- An answer that accepts is told by its header and its state.
-- Assumes nothing.
use mathlib.Core.Path.{◌≡◌, ap}
use Rattle.header_verdict.specs.Verdict.{Accepted}
use Rattle.header_answer.specs.Answer.{HeaderRead, accepted}

pub accepted_is : (x : HeaderRead) → x.verdict ≡ Accepted → x ≡ accepted x.header x.state
accepted_is x e = ap (λ v. let r : HeaderRead = record { verdict = v; header = x.header; state = x.state } in r) e
