use Rattle.base_bytes.proofs.Append.{then}
use Rattle.text_records.specs.State.{state_text}
use Rattle.text_records.proofs.put_state.Goals as goal

pub returns : goal.returns
unfolding state_text
returns c = then c.put_state_opening-next.ensures (then c.put_filter-next.ensures (then c.put_segmentation-next.ensures c.put_slots.ensures))
