use Rattle.header_record.specs.Record.{frame_record}
use Rattle.header_record.proofs.frame_record.Goals as goal

pub returns : goal.returns
unfolding frame_record
returns c = rw (c.of_two_bits.ensures, c.frame_type.ensures, c.sign_biases.ensures, c.is_lossless.ensures, c.header_bytes.ensures)
