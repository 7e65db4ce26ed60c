use Rattle.grammar_tables.specs.Tables.{feature_signed}
use Rattle.part_feature.proofs.Tables.{looked_up}
use Rattle.part_feature.proofs.feature_signed.Goals as goal

pub returns : goal.returns
unfolding feature_signed
returns c = rw (c.unwrap_or.ensures, c.copied.ensures) (search looked_up)
