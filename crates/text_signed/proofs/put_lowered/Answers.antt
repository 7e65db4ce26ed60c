use native.Mathlib.Omega.{arith}
use borrow.Author.Tests.{lt-ltb, le-ltb}
use Rattle.base_bytes.proofs.Append.{then}
use Rattle.text_signed.specs.Number.{lowered_text}
use Rattle.text_signed.proofs.put_lowered.Goals as goal

pub returns-then-n-lt65536 : goal.returns-then-n-lt65536
unfolding lowered_text
returns-then-n-lt65536 c = rw (lt-ltb c.args.n 65536 (omega arith)) (then c.put-next.ensures c.put_number.ensures)

pub returns : goal.returns
unfolding lowered_text
returns c = rw (le-ltb c.args.n 65536 (omega arith)) c.put_number-2.ensures
