use Rattle.chunk_choice.proofs.choose_picture.Goals as goal

pub returns-then-yes : goal.returns-then-yes
returns-then-yes c = rw c.if-yes.true c.part.ensures

pub returns-else-yes : goal.returns-else-yes
returns-else-yes c = rw c.if-yes.false c.part-else-yes.ensures
