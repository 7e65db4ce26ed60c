use lib.ListN.{drop}
use Rattle.base_bytes.proofs.Rest.{Left}
use Rattle.text_records.specs.Segments.{segments_from, segments_text}
use Rattle.text_records.proofs.put_segments.Given as goal

abbrev pub invariant-loop-i : goal.invariant-loop-i
invariant-loop-i l = Left l.initial.out l.at (segments_text l.fn.records) l.out l.next (segments_from l.i (drop l.i l.fn.records))
