-- A reader yields the records of its file in order, from the first one behind the file's header, and then the end or 8
-- for ever.
-- Assumes nothing.
use Prim.Native.Nat.{ℕ, zero, suc, ◌+◌, ◌<◌, ◌≤◌}
use mathlib.Core.Path.{◌≡◌, refl, ap}
use mathlib.Core.List.{List, [], ◌∷◌}
use native.Mathlib.Omega.{arith}
use lib.ListN.{length, get_or, length-append}
use denote.Ref.{Bor}
use Rattle.std.specs.Prelude.{None, Some, Ok, Err}
use Rattle.ivf_file.specs.Record.{RecordRead, record_of}
use Rattle.ivf_file.specs.Records.{follow, records_from, records_of}
use Rattle.ivf_file.specs.Spelling.{FileValues, spell_header}
use Rattle.ivf_file.specs.Recording.{RecordValues, Recording, Say}
use Rattle.ivf_file.proofs.Inside.{lies}
use Rattle.ivf_file.proofs.Records.{records_step}
use Rattle.ivf_file.proofs.Recording.{length_header, records_spelled}
use Rattle.ivf_reader.specs.declared.RecordReader.{RecordReader}
use Rattle.ivf_reader.specs.Reader.{opened, moved_on}
use Rattle.ivf_reader.specs.Yields.{yields, in_turn, all_in_turn}
use Rattle.ivf_reader.proofs.Places.{past_end_cut}

-- from a place past the file's end 8, for ever
past_end_yields : (n : ℕ) (r : RecordReader) → length r.file.now < r.place → yields n r ≡ in_turn n [] (Err (record {}))
unfolding yields in_turn
past_end_yields zero r h = refl
past_end_yields (suc n) r h = let k = past_end_cut r h in rw (k.0, past_end_yields n r h)

module _ (f : Bor (List ℕ)) where
  at : ℕ → RecordReader
  at p = record { file = f; place = p }

  -- what is yielded from a place on, by what is yielded from the next on
  step_yields : (n m p : ℕ) → p ≤ length f.now → length f.now ≤ p + m → ((q : ℕ) → q ≤ length f.now → length f.now ≤ q + m → yields n (at q) ≡ all_in_turn n (records_from m f.now q)) → yields (suc n) (at p) ≡ all_in_turn (suc n) (records_from m f.now p)
  unfolding at yields in_turn
  step_yields n m p h k others = rw (records_step f.now m p h k) (go (record_of f.now p) refl)
    where
      go : (a : RecordRead) → record_of f.now p ≡ a → (record_of f.now p ∷ yields n (moved_on (at p))) ≡ all_in_turn (suc n) (follow a (records_from m f.now))
      go (Ok None) e = rw e (ap (λ (x : List RecordRead). Ok None ∷ x) (rw (records_step f.now m p h k, e) at (others p h k)))
      go (Err _) e = rw e (ap (λ (x : List RecordRead). Err (record {}) ∷ x) (rw (records_step f.now m p h k, e) at (others p h k)))
      go (Ok (Some r)) e = let w = lies f.now p r e in rw e (rw (others r.next w.inside (omega (arith, w.header_first, w.then_data))))

  all_yields : (n m p : ℕ) → p ≤ length f.now → length f.now ≤ p + m → yields n (at p) ≡ all_in_turn n (records_from m f.now p)
  unfolding yields in_turn
  all_yields zero m p h k = refl
  all_yields (suc n) m p h k = step_yields n m p h k (λ q i j. all_yields n m q i j)

  -- the first record stands right behind the file's header
  pub behind_header : (v : FileValues) → (opened f).place ≡ length (spell_header v)
  behind_header v = rw (length_header v)

  -- the records of a file, in order, and then the end or 8 for ever
  pub opened_yields : 32 ≤ length f.now → (n : ℕ) → yields n (opened f) ≡ all_in_turn n (records_of f.now)
  unfolding at
  opened_yields h n = all_yields n (length f.now) 32 h (omega arith)

  -- a file without a whole header has none
  pub short_yields : length f.now < 32 → (n : ℕ) → yields n (opened f) ≡ in_turn n [] (Err (record {}))
  short_yields h n = past_end_yields n (opened f) h

  -- of a file of bytes that is spelled, those that are spelled
  pub spelled_yields : ((i : ℕ) → get_or f.now i 0 < 256) → (v : FileValues) (vs : List RecordValues) (left : List ℕ) → Recording f.now v vs left → Say f.now (records_of f.now) vs left × ((n : ℕ) → yields n (opened f) ≡ all_in_turn n (records_of f.now))
  spelled_yields bytes v vs left s = (records_spelled f.now bytes v vs left s, opened_yields (rw (s.spelled, length-append, length_header) (omega arith)))
