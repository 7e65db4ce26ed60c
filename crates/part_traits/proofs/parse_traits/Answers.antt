use Rattle.part_field.proofs.Steps.{reading}
use Rattle.part_traits.specs.Traits.{read_traits, traits_of}
use Rattle.part_traits.proofs.parse_traits.Goals as goal

pub returns-in_err-kind : goal.returns-in_err-kind
unfolding read_traits
returns-in_err-kind c = search reading

pub returns-in_err-show : goal.returns-in_err-show
unfolding read_traits
returns-in_err-show c = search reading

pub returns-in_err-resilient : goal.returns-in_err-resilient
unfolding read_traits
returns-in_err-resilient c = search reading

pub returns : goal.returns
unfolding read_traits traits_of
returns c = search reading
