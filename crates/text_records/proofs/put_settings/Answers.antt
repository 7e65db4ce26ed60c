use Rattle.base_bytes.proofs.Append.{then}
use Rattle.text_records.proofs.put_settings.Goals as goal

pub returns : goal.returns
returns c = then c.put_filter-next.ensures (then c.put_quantization-next.ensures c.put_segmentation.ensures)
