use Rattle.part_tiles.proofs.Records.{cols_ordered, cols_fit, cols_read, cols_short}
use Rattle.part_tiles.proofs.tile_cols.Goals as goal

pub overflow_sub-max_log2 : goal.overflow_sub-max_log2
overflow_sub-max_log2 c = search cols_ordered

pub returns-in_err-count : goal.returns-in_err-count
returns-in_err-count c = search cols_short

pub overflow_add-result : goal.overflow_add-result
overflow_add-result c = search cols_fit

pub returns : goal.returns
returns c = search cols_read
