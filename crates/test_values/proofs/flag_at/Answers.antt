use Rattle.test_values.proofs.flag_at.Goals as goal

pub returns : goal.returns
returns c = rw c.byte_at.ensures
