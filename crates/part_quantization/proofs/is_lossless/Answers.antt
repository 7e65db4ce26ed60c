use borrow.Author.Rules.{rules}
use Rattle.grammar_settings.specs.Settings.{lossless}
use Rattle.part_quantization.proofs.Records.{zeros}
use Rattle.part_quantization.proofs.is_lossless.Goals as goal

pub returns-then-q-eq0-3 : goal.returns-then-q-eq0-3
unfolding lossless
returns-then-q-eq0-3 c = search (rules, zeros)

pub returns-else-q-eq0-3 : goal.returns-else-q-eq0-3
unfolding lossless
returns-else-q-eq0-3 c = search (rules, zeros)
