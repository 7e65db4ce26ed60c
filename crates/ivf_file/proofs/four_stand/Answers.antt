use borrow.Author.Rules.{rules}
use Rattle.ivf_file.proofs.Four.{compared}
use Rattle.ivf_file.proofs.four_stand.Goals as goal

pub returns : goal.returns
returns c = search (rules, compared)
