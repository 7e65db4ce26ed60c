use Rattle.part_field.proofs.Steps.{reading}
use Rattle.part_sampling.specs.Sampling.{read_sampling}
use Rattle.part_sampling.proofs.Records.{sampling_read}
use Rattle.part_sampling.proofs.parse_sampling.Goals as goal

pub returns-in_err-range : goal.returns-in_err-range
unfolding read_sampling
returns-in_err-range c = search reading

pub returns-in_err-x : goal.returns-in_err-x
unfolding read_sampling
returns-in_err-x c = search reading

pub returns-in_err-y : goal.returns-in_err-y
unfolding read_sampling
returns-in_err-y c = search reading

pub returns-in_err-c : goal.returns-in_err-c
unfolding read_sampling
returns-in_err-c c = search reading

pub returns : goal.returns
unfolding read_sampling
returns c = search (reading, sampling_read)
