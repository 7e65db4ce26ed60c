use Rattle.part_field.proofs.Steps.{reading}
use Rattle.part_opening.specs.Profile.{read_profile}
use Rattle.part_opening.proofs.Records.{twice_fits, profile_fits}
use Rattle.part_opening.proofs.parse_profile.Goals as goal

pub returns-in_err-marker : goal.returns-in_err-marker
unfolding read_profile
returns-in_err-marker c = search reading

pub returns-then-marker-ne2 : goal.returns-then-marker-ne2
unfolding read_profile
returns-then-marker-ne2 c = search reading

pub returns-in_err-low : goal.returns-in_err-low
unfolding read_profile
returns-in_err-low c = search reading

pub returns-in_err-high : goal.returns-in_err-high
unfolding read_profile
returns-in_err-high c = search reading

pub overflow_mul-profile : goal.overflow_mul-profile
overflow_mul-profile c = search twice_fits

pub overflow_add-profile : goal.overflow_add-profile
overflow_add-profile c = search profile_fits

pub returns-in_err-c : goal.returns-in_err-c
unfolding read_profile
returns-in_err-c c = search reading

pub returns : goal.returns
unfolding read_profile
returns c = search reading
