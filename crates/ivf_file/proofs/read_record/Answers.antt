use Rattle.ivf_file.proofs.Cases.{at_end, past_end, cut_header, cut_data, is_record}
use Rattle.ivf_file.proofs.read_record.Goals as goal

pub returns-then-place-file : goal.returns-then-place-file
returns-then-place-file c = search at_end

pub returns-then-place-file-2 : goal.returns-then-place-file-2
returns-then-place-file-2 c = search past_end

pub returns-then-left-lt12 : goal.returns-then-left-lt12
returns-then-left-lt12 c = search cut_header

pub returns-then-left-bytes : goal.returns-then-left-bytes
returns-then-left-bytes c = search cut_data

pub returns : goal.returns
returns c = search is_record
