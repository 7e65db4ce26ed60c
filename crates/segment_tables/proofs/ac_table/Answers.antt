use Rattle.segment_tables.specs.Lists.{ac_qlookup8, ac_qlookup10, ac_qlookup12}
use Rattle.segment_tables.specs.Tables.{ac_row, ac_table}
use Rattle.segment_tables.proofs.ac_table.Goals as goal

pub returns-in-Depth8 : goal.returns-in-Depth8
unfolding ac_table ac_row ac_qlookup8
returns-in-Depth8 c = rw c.in-Depth8.is

pub returns-in-Depth10 : goal.returns-in-Depth10
unfolding ac_table ac_row ac_qlookup10
returns-in-Depth10 c = rw c.in-Depth10.is

pub returns-in-Depth12 : goal.returns-in-Depth12
unfolding ac_table ac_row ac_qlookup12
returns-in-Depth12 c = rw c.in-Depth12.is
