use Rattle.base_bytes.proofs.Append.{then}
use Rattle.text_frame_line.proofs.Parts.{frame_parts}
use Rattle.text_frame_line.proofs.frame_line.Goals as goal

pub returns : goal.returns
returns c =
    let a = c.args in
    let k = c.of.ensures in
    rw (frame_parts a.chunk a.frame a.place a.size a.header) at (then (rw k at c.put_frame-a.ensures) (then c.put_sizes-b.ensures c.put_header.ensures))
