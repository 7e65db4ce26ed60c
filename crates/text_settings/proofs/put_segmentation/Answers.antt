use Rattle.base_bytes.proofs.Append.{then}
use Rattle.text_settings.proofs.put_segmentation.Goals as goal

pub returns : goal.returns
returns c = then c.put_switches-next.ensures (then c.put_features-next.ensures c.put_data.ensures)
