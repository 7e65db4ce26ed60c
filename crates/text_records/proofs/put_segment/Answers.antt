use Rattle.base_bytes.proofs.Append.{then}
use Rattle.text_records.specs.Segments.{segment_text, segment_fields}
use Rattle.text_records.proofs.put_segment.Goals as goal

pub returns : goal.returns
unfolding segment_text segment_fields
returns c = then c.put-next.ensures (then c.put_number-next.ensures (rw (← c.segment_row-row.ensures) c.put_form.ensures))
