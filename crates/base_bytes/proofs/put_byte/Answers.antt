use Rattle.base_bytes.proofs.Append.{byte_fits, past_end}
use Rattle.base_bytes.proofs.put_byte.Goals as goal

pub returns-then-at-out : goal.returns-then-at-out
returns-then-at-out c = search past_end

pub returns : goal.returns
returns c = search byte_fits
