use Prim.Native.Nat.{◌≤◌}
use mathlib.Core.Path.{◌≡◌}
use lib.ListN.{length}
use Rattle.base_shared.specs.Lists.{values_of}
use Rattle.base_bytes.specs.Put.{Written}
use Rattle.text_line.specs.Line.{text_of}
use Rattle.listing_file.specs.Chunk.{line_from}
use Rattle.listing_lister.proofs.put_frames.Given as goal

abbrev pub invariant-loop-i : goal.invariant-loop-i
invariant-loop-i l = (l.i ≤ l.count) × (l.count ≤ length l.headers) × (length l.out ≡ length l.initial.out) × Written l.initial.out l.at (text_of (values_of (line_from l.chunk l.places l.sizes l.headers) l.i)) l.next l.out
