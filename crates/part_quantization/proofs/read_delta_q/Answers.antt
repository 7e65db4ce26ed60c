use Rattle.part_coded.proofs.Steps.{delta_step, delta_stop}
use Rattle.part_quantization.proofs.Steps.{alone}
use Rattle.part_quantization.proofs.Records.{delta_q_lem}
use borrow.Author.Rules.{rules}
use Rattle.part_quantization.proofs.read_delta_q.Goals as goal

pub returns-in_err-delta : goal.returns-in_err-delta
returns-in_err-delta c = λ i. search (alone, delta_stop)

pub returns : goal.returns
returns c = λ i. search (rules, alone, delta_step, delta_q_lem)
