use mathlib.Core.Path.{◌∙◌}
use native.Mathlib.Omega.{arith}
use Rattle.ivf_arriving.proofs.Cases.{none_there, header_cut, too_long_lem, data_cut, data_there}
use Rattle.ivf_arriving.proofs.next_record.Goals as goal

pub returns-then-s-eq0 : goal.returns-then-s-eq0
returns-then-s-eq0 c = c.empty.ensures ∙ none_there _ _ c.if-s-eq0.true

pub returns-then-s-lt12 : goal.returns-then-s-lt12
returns-then-s-lt12 c = c.short.ensures ∙ header_cut _ _ c.if-s-eq0.false (omega arith)

pub returns-then-n-gt-MAX_DATA : goal.returns-then-n-gt-MAX_DATA
returns-then-n-gt-MAX_DATA c = too_long_lem _ _ _ c.data_size-n.ensures (omega arith) (omega arith)

pub returns-then-s-size : goal.returns-then-s-size
returns-then-s-size c = c.short-then-s-size.ensures ∙ data_cut _ _ _ c.data_size-n.ensures (omega arith) (omega arith) (omega arith)

pub returns : goal.returns
returns c = data_there _ _ _ c.data_size-n.ensures (omega arith) (omega arith) (omega arith)
