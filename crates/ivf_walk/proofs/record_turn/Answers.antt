use Rattle.ivf_walk.proofs.Steps.{next_there}
use borrow.Author.Rules.{rules}
use Rattle.ivf_walk.proofs.record_turn.Goals as goal

pub overflow_add-result : goal.overflow_add-result
overflow_add-result c =
    let fits = rw (← c.in-Data.ensures) at (next_there c.args.s.now c.args.ended) in
    search (rules, fits)
