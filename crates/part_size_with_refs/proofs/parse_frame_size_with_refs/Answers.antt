use Rattle.part_size_with_refs.proofs.WithRefs.{found_at_lem, found_none, found_stop}
use Rattle.part_size_with_refs.proofs.parse_frame_size_with_refs.Goals as goal

pub returns-in_err-found : goal.returns-in_err-found
returns-in_err-found c = search found_stop

pub returns-in-Some : goal.returns-in-Some
returns-in-Some c = search found_at_lem

pub returns-in-None : goal.returns-in-None
returns-in-None c = search found_none
