use Rattle.ivf_file.proofs.Cases.{too_short, no_dkif, other_size, no_vp90, is_header}
use Rattle.ivf_file.proofs.parse_ivf_header.Goals as goal

pub returns-then-file-lt32 : goal.returns-then-file-lt32
returns-then-file-lt32 c = search too_short

pub returns-then-not-four_stand : goal.returns-then-not-four_stand
returns-then-not-four_stand c = search no_dkif

pub returns-then-number_at-ne32 : goal.returns-then-number_at-ne32
returns-then-number_at-ne32 c = search other_size

pub returns-then-not-four_stand-2 : goal.returns-then-not-four_stand-2
returns-then-not-four_stand-2 c = search no_vp90

pub returns : goal.returns
returns c = search is_header
