use Rattle.text_form.proofs.Cases.{closes, goes_on, is_put, is_passed}
use Rattle.text_form.proofs.words_after.Goals as goal

pub returns-then-c-eq62 : goal.returns-then-c-eq62
returns-then-c-eq62 c = search closes

pub returns-then-c-ne124 : goal.returns-then-c-ne124
returns-then-c-ne124 c = search goes_on

pub returns-then-left-eq0 : goal.returns-then-left-eq0
returns-then-left-eq0 c = search is_put

pub returns-else-left-eq0 : goal.returns-else-left-eq0
returns-else-left-eq0 c = search is_passed
