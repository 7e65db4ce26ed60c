-- A file begins with a header exactly if it begins with the spelling of values in range, and a record stands at a
-- place exactly if its spelling does.
-- Assumes nothing.
use Prim.Native.Nat.{ℕ, ◌+◌, ◌^◌, ◌<◌, ◌≤◌}
use mathlib.Core.Path.{◌≡◌, refl, sym, ap, ◌∙◌}
use mathlib.Core.Bool.{Bool, true, false}
use mathlib.Core.Logic.{◌↔◌, inl, inr, ⊎_elim}
use mathlib.Core.List.{List, ◌++◌, append_assoc}
use native.Mathlib.Omega.{arith}
use lib.Dec.{eqb}
use lib.ListN.{length, get_or, take, drop, length-append, length-drop, take-append-drop}
use lib.Seq.{drop-drop, length-take-le}
use borrow.Author.Tests.{eqb-true, eqb-false}
use Rattle.base_little.specs.Little.{little, spell_little}
use Rattle.ivf_file.specs.declared.IvfHeader.{IvfHeader}
use Rattle.ivf_file.specs.declared.Record.{Record}
use Rattle.std.specs.Prelude.{Some, Ok}
use Rattle.ivf_file.specs.File.{dkif, vp90, stands_at, file_header_of, file_of}
use Rattle.ivf_file.specs.Record.{record_at, record_of}
use Rattle.ivf_file.specs.Table.{Lacks}
use Rattle.ivf_file.specs.Spelling.{FileValues, spell_header, FileRanged, FileBegins, spell_record, record_from, RecordStands}
use Rattle.base_little.proofs.Spelling.{little_lt}
use Rattle.base_little.proofs.Spelling.{length_little, little_spelt, little_bytes}
use Rattle.ivf_file.proofs.Stands.{stands_part}
use Rattle.ivf_file.proofs.Table.{lacks, file_exactly, record_exactly}

-- what isn't lacking stands there
stood : (f : List ℕ) (at : ℕ) (bs : List ℕ) → at + length bs ≤ length f → (Lacks f at bs → ⊥) → take (length bs) (drop at f) ≡ bs
stood f at bs h n = go (stands_at f at bs) refl
  where
    go : (b : Bool) → stands_at f at bs ≡ b → take (length bs) (drop at f) ≡ bs
    go true e = stands_part f at bs h e
    go false e = absurd (n (lacks f at bs h e))

same_number : (m n : ℕ) → ((m ≡ n → ⊥) → ⊥) → m ≡ n
same_number m n h = go (eqb m n) refl
  where
    go : (b : Bool) → eqb m n ≡ b → m ≡ n
    go true e = eqb-true m n e
    go false e = absurd (h (eqb-false m n e))

-- what the first 32 bytes say
header_values : List ℕ → FileValues
header_values f = record { version = little f 4 2; header = file_header_of f; unused = little f 28 4 }

values_spelt : (v : FileValues) → FileRanged v → (b : List ℕ) → header_values (spell_header v ++ b) ≡ v
unfolding header_values file_header_of spell_header spell_little little
values_spelt v r b =
    let version : little (spell_header v ++ b) 4 2 ≡ v.version = omega (arith, r.version) in
    let width : little (spell_header v ++ b) 12 2 ≡ v.header.width = omega (arith, r.width) in
    let height : little (spell_header v ++ b) 14 2 ≡ v.header.height = omega (arith, r.height) in
    let rate : little (spell_header v ++ b) 16 4 ≡ v.header.rate = omega (arith, r.rate) in
    let scale : little (spell_header v ++ b) 20 4 ≡ v.header.scale = omega (arith, r.scale) in
    let count : little (spell_header v ++ b) 24 4 ≡ v.header.count = omega (arith, r.count) in
    let unused : little (spell_header v ++ b) 28 4 ≡ v.unused = omega (arith, r.unused) in
    rw (version, width, height, rate, scale, count, unused)

-- a header that is spelled is read
pub header_spelt : (v : FileValues) → FileRanged v → (b : List ℕ) → file_of (spell_header v ++ b) ≡ Ok v.header
unfolding header_values spell_header spell_little little
header_spelt v r b =
    let e : header_values (spell_header v ++ b) ≡ v = values_spelt v r b in
    (file_exactly (spell_header v ++ b) (Ok v.header)).1
    (⊎_elim (λ l. omega arith) (⊎_elim (λ n. n refl) (⊎_elim (λ n. n refl) (λ n. n refl))), sym (ap (λ (x : FileValues). x.header) e))

-- no other values' spelling begins the file
pub one_header : (v w : FileValues) → FileRanged v → FileRanged w → (a b : List ℕ) → spell_header v ++ a ≡ spell_header w ++ b → v ≡ w
one_header v w r q a b e = sym (values_spelt v r a) ∙ ap header_values e ∙ values_spelt w q b

-- a record that is spelled is read
pub record_spelt : (a b : List ℕ) (time : ℕ) (bytes : List ℕ) → length bytes < 256 ^ 4 → time < 256 ^ 8 → record_of (a ++ (spell_record time bytes ++ b)) (length a) ≡ Ok (Some (record_from (length a) time bytes))
unfolding spell_record record_at
record_spelt a b time bytes h k =
    let f = a ++ (spell_record time bytes ++ b) in
    let first = spell_little 4 (length bytes) in
    let size : little f (length a) 4 ≡ length bytes = rw append_assoc (little_spelt a ((spell_little 8 time ++ bytes) ++ b) 4 (length bytes) h) in
    let l : length (a ++ first) ≡ length a + 4 = rw (length-append, length_little) in
    let when : little f (length a + 4) 8 ≡ time = rw (append_assoc, append_assoc, ← append_assoc a first, ← l) (little_spelt (a ++ first) (bytes ++ b) 8 time k) in
    let all : length f ≡ length a + (4 + (8 + length bytes) + length b) = rw (length-append, length-append, length-append, length-append, length_little, length_little) in
    (record_exactly f (length a) (Ok (Some (record_from (length a) time bytes)))).1
    (⊎_elim (λ x. omega (arith, all, x)) (λ x. omega (arith, all, size, x)), rw (size, when))

-- the other way round, of a file of bytes
module _ (f : List ℕ) (bytes : (i : ℕ) → get_or f i 0 < 256) where
  -- n bytes from p on, and the rest
  piece : (p n q : ℕ) → p + n ≡ q → take n (drop p f) ++ drop q f ≡ drop p f
  piece p n q e = rw (← e, ← drop-drop n p f) (take-append-drop n (drop p f))

  header_pieces : (take 4 f ++ (take 2 (drop 4 f) ++ (take 2 (drop 6 f) ++ (take 4 (drop 8 f) ++ (take 2 (drop 12 f) ++ (take 2 (drop 14 f) ++ (take 4 (drop 16 f) ++ (take 4 (drop 20 f) ++ (take 4 (drop 24 f) ++ take 4 (drop 28 f)))))))))) ++ drop 32 f ≡ f
  header_pieces = simp append_assoc (rw (piece 28 4 32 refl, piece 24 4 28 refl, piece 20 4 24 refl, piece 16 4 20 refl, piece 14 2 16 refl, piece 12 2 14 refl, piece 8 4 12 refl, piece 6 2 8 refl, piece 4 2 6 refl, piece 0 4 4 refl))

  -- a header that is read is spelled
  header_begins : (h : IvfHeader) → file_of f ≡ Ok h → FileBegins f h
  unfolding header_values file_header_of spell_header
  header_begins h e =
      let k = (file_exactly f (Ok h)).0 e in
      let n : length f < 32 → ⊥ = λ l. k.0 (inl l) in
      let long : 32 ≤ length f = omega arith in
      let first : take 4 f ≡ dkif = stood f 0 dkif (omega arith) (λ l. k.0 (inr (inl l))) in
      let size : little f 6 2 ≡ 32 = same_number (little f 6 2) 32 (λ l. k.0 (inr (inr (inl l)))) in
      let second : take 4 (drop 8 f) ≡ vp90 = stood f 8 vp90 (omega arith) (λ l. k.0 (inr (inr (inr l)))) in
      record {
        values = header_values f;
        in_range = record {
          version = little_lt f bytes 4 2;
          width = little_lt f bytes 12 2;
          height = little_lt f bytes 14 2;
          rate = little_lt f bytes 16 4;
          scale = little_lt f bytes 20 4;
          count = little_lt f bytes 24 4;
          unused = little_lt f bytes 28 4;
        };
        same = sym k.1;
        rest = drop 32 f;
        spelled =
            sym
            (rw (
              first,
              second,
              ← little_bytes f bytes 4 2 (omega arith),
              ← little_bytes f bytes 6 2 (omega arith),
              ← little_bytes f bytes 12 2 (omega arith),
              ← little_bytes f bytes 14 2 (omega arith),
              ← little_bytes f bytes 16 4 (omega arith),
              ← little_bytes f bytes 20 4 (omega arith),
              ← little_bytes f bytes 24 4 (omega arith),
              ← little_bytes f bytes 28 4 (omega arith),
              size,
            ) at header_pieces);
      }

  -- a file's header is read exactly if the file begins with its spelling
  pub header_spelled : (h : IvfHeader) → (file_of f ≡ Ok h) ↔ FileBegins f h
  header_spelled h = (header_begins h, λ s. ap file_of s.spelled ∙ header_spelt s.values s.in_range s.rest ∙ ap Ok s.same)

  -- a record that is read is spelled
  record_stands : (p : ℕ) (r : Record) → record_of f p ≡ Ok (Some r) → RecordStands f p r
  unfolding spell_record record_at
  record_stands p r e =
      let k = (record_exactly f p (Ok (Some r))).0 e in
      let n : length f < p + 12 + little f p 4 → ⊥ = λ l. k.0 (inr l) in
      let end : p + 12 + little f p 4 ≤ length f = omega arith in
      let bs = take (little f p 4) (drop (p + 12) f) in
      let size : length bs ≡ little f p 4 = length-take-le (little f p 4) (drop (p + 12) f) (rw length-drop (omega arith)) in
      let first : take 4 (drop p f) ≡ spell_little 4 (length bs) = rw size (sym (little_bytes f bytes p 4 (omega arith))) in
      let pieces : take p f ++ ((take 4 (drop p f) ++ (take 8 (drop (p + 4) f) ++ bs)) ++ drop (p + 12 + little f p 4) f) ≡ f =
      rw (append_assoc, append_assoc, piece (p + 12) (little f p 4) _ refl, piece (p + 4) 8 (p + 12) (omega arith), piece p 4 (p + 4) refl) (take-append-drop p f) in
      rw k.1 (record {
        before = take p f;
        bytes = bs;
        rest = drop (p + 12 + little f p 4) f;
        at = length-take-le p f (omega arith);
        length_fits = rw size (little_lt f bytes p 4);
        time_fits = little_lt f bytes (p + 4) 8;
        same = rw size;
        spelled = sym (rw (first, ← little_bytes f bytes (p + 4) 8 (omega arith)) at pieces);
      })

  -- a record is read at a place exactly if its spelling stands there
  pub record_spelled : (p : ℕ) (r : Record) → (record_of f p ≡ Ok (Some r)) ↔ RecordStands f p r
  record_spelled p r = (record_stands p r, back)
    where
      back : RecordStands f p r → record_of f p ≡ Ok (Some r)
      back s =
          let k : record_of f (length s.before) ≡ Ok (Some (record_from (length s.before) r.time s.bytes)) =
          rw s.spelled (record_spelt s.before s.rest r.time s.bytes s.length_fits s.time_fits) in
          (rw s.at at k) ∙ sym (ap (λ (x : Record). Ok (Some x)) s.same)
