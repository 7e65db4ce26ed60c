use mathlib.Core.Path.{sym, ap, ◌∙◌}
use Rattle.test_values.specs.Values.{depth_read}
use Rattle.test_values.proofs.depth_at.Goals as goal

pub returns-in-0 : goal.returns-in-0
returns-in-0 c = sym (ap depth_read (sym c.byte_at.ensures ∙ c.in-0.is))

pub returns-in-1 : goal.returns-in-1
returns-in-1 c = sym (ap depth_read (sym c.byte_at.ensures ∙ c.in-1.is))
