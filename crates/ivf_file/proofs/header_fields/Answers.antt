use Rattle.ivf_file.specs.File.{file_header_of}
use Rattle.ivf_file.proofs.header_fields.Goals as goal

pub returns : goal.returns
returns c = unfold file_header_of in rw (c.number_at.ensures.0, c.number_at-2.ensures.0, c.number_at-3.ensures.0, c.number_at-4.ensures.0, c.number_at-5.ensures.0)
