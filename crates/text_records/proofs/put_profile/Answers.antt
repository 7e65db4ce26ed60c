use Rattle.text_records.specs.Header.{profile_text}
use Rattle.text_records.proofs.put_profile.Goals as goal

pub returns : goal.returns
unfolding profile_text
returns c = rw (← c.from.ensures) c.put_form.ensures
