use Rattle.part_field.proofs.Steps.{reading}
use Rattle.part_traits.specs.Kind.{read_kind, kind_of}
use Rattle.part_traits.proofs.Records.{reset_fits}
use Rattle.part_traits.proofs.parse_kind.Goals as goal

pub returns-in_err-intra : goal.returns-in_err-intra
unfolding read_kind
returns-in_err-intra c = search reading

pub returns-in_err-reset : goal.returns-in_err-reset
unfolding read_kind
returns-in_err-reset c = search reading

pub overflow_cast-kind : goal.overflow_cast-kind
overflow_cast-kind c = search reset_fits

pub returns : goal.returns
unfolding read_kind kind_of
returns c = search reading
