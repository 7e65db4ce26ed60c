use Rattle.segment_tables.specs.Lists.{dc_qlookup8, dc_qlookup10, dc_qlookup12}
use Rattle.segment_tables.specs.Tables.{dc_row, dc_table}
use Rattle.segment_tables.proofs.dc_table.Goals as goal

pub returns-in-Depth8 : goal.returns-in-Depth8
unfolding dc_table dc_row dc_qlookup8
returns-in-Depth8 c = rw c.in-Depth8.is

pub returns-in-Depth10 : goal.returns-in-Depth10
unfolding dc_table dc_row dc_qlookup10
returns-in-Depth10 c = rw c.in-Depth10.is

pub returns-in-Depth12 : goal.returns-in-Depth12
unfolding dc_table dc_row dc_qlookup12
returns-in-Depth12 c = rw c.in-Depth12.is
