use Rattle.part_sampling.proofs.sampling_of.Goals as goal

pub returns : goal.returns
returns c = cc
