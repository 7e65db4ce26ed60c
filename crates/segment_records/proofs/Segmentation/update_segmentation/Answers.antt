use Rattle.segment_records.proofs.Frame.{by_depth}
use Rattle.segment_records.proofs.Segmentation.update_segmentation.Goals as goal

pub returns-in-Depth8 : goal.returns-in-Depth8
returns-in-Depth8 c = search by_depth

pub returns-in-Depth10 : goal.returns-in-Depth10
returns-in-Depth10 c = search by_depth

pub returns-in-Depth12 : goal.returns-in-Depth12
returns-in-Depth12 c = search by_depth
