use Rattle.base_syntax.proofs.Steps.{group_step, group_stop}
use Rattle.part_field.proofs.Steps.{reading}
use Rattle.grammar_tables.specs.Reading.{read_tiles}
use Rattle.part_tiles.proofs.Records.{rows_fit, tiles_read}
use Rattle.part_tiles.proofs.parse_tile_info.Goals as goal

pub returns-in_err-cols_log2 : goal.returns-in_err-cols_log2
unfolding read_tiles
returns-in_err-cols_log2 c = search (reading, group_stop)

pub returns-in_err-rows : goal.returns-in_err-rows
unfolding read_tiles
returns-in_err-rows c = search (reading, group_step)

pub returns-in_err-more : goal.returns-in_err-more
unfolding read_tiles
returns-in_err-more c = search (reading, group_step)

pub overflow_add-tiles : goal.overflow_add-tiles
overflow_add-tiles c = search rows_fit

pub overflow_cast-tiles : goal.overflow_cast-tiles
overflow_cast-tiles c = search rows_fit

pub returns : goal.returns
unfolding read_tiles
returns c = search (reading, group_step, tiles_read)
