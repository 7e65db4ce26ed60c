use borrow.Author.Tests.{eq-eqb, ne_eqb}
use Rattle.base_syntax.proofs.Steps.{group_step, group_stop}
use Rattle.part_field.proofs.Steps.{reading}
use Rattle.part_loop_deltas.specs.LoopDeltas.{read_loop_deltas}
use Rattle.part_loop_deltas.proofs.Records.{refs_read, modes_read, deltas_moved, deltas_kept}
use Rattle.part_loop_deltas.proofs.parse_loop_deltas.Goals as goal

pub returns-in_err-update : goal.returns-in_err-update
unfolding read_loop_deltas
returns-in_err-update c = search reading

pub returns-then-update-ne1 : goal.returns-then-update-ne1
unfolding read_loop_deltas
returns-then-update-ne1 c = search (reading, ne_eqb, deltas_kept)

pub returns-in_err-coded : goal.returns-in_err-coded
unfolding read_loop_deltas
returns-in_err-coded c = search (reading, eq-eqb, group_stop, refs_read)

pub returns-in_err-coded-2 : goal.returns-in_err-coded-2
unfolding read_loop_deltas
returns-in_err-coded-2 c = search (reading, eq-eqb, group_step, group_stop, refs_read, modes_read) depth 8

pub returns : goal.returns
unfolding read_loop_deltas
returns c = search (reading, eq-eqb, group_step, refs_read, modes_read, deltas_moved) depth 8
