use Rattle.header_state.proofs.range_after.Goals as goal

pub returns-then-profile-l : goal.returns-then-profile-l
returns-then-profile-l c = rw c.if-profile-l.true

pub returns-else-profile-l : goal.returns-else-profile-l
returns-else-profile-l c = rw c.if-profile-l.false
