-- Where a reader's place goes: past the file's end it gives 8 and stays, inside the file it stays inside, and
-- each record moves it on.
-- Assumes nothing.
use Prim.Native.Nat.{◌+◌, ◌<◌, ◌≤◌}
use mathlib.Core.Path.{◌≡◌}
use native.Mathlib.Omega.{arith}
use lib.ListN.{length}
use Rattle.ivf_file.specs.declared.Record.{Record}
use Rattle.std.specs.Prelude.{None, Some, Ok, Err}
use Rattle.ivf_file.specs.Record.{RecordRead, record_of}
use Rattle.ivf_file.proofs.Table.{past_the_end}
use Rattle.ivf_file.proofs.Inside.{lies}
use Rattle.ivf_reader.specs.declared.RecordReader.{RecordReader}
use Rattle.ivf_reader.specs.Reader.{moved_on}

module _ (r : RecordReader) where
  abbrev answer : RecordRead
  answer = record_of r.file.now r.place

  pub past_end_cut : length r.file.now < r.place → (answer ≡ Err (record {})) × (moved_on r ≡ r)
  past_end_cut h = let e = past_the_end r.file.now r.place h in (e, rw e)

  -- a place behind a record is inside the file, 12 bytes or more further on
  pub moves : (x : Record) → answer ≡ Ok (Some x) → (r.place + 12 ≤ (moved_on r).place) × ((moved_on r).place ≤ length r.file.now)
  moves x e = let l = lies r.file.now r.place x e in rw e (omega arith, l.inside)

  -- without a record the place stays
  pub stays : (answer ≡ Ok None → moved_on r ≡ r) × (answer ≡ Err (record {}) → moved_on r ≡ r)
  stays = (λ e. rw e, λ e. rw e)
