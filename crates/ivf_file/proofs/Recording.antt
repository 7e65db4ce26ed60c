-- The records of a file are those that are spelled in it, in order, and no others: of every file of bytes.
-- Assumes nothing.
use Prim.Native.Nat.{ℕ, zero, suc, ◌+◌, ◌<◌, ◌≤◌}
use mathlib.Core.Path.{◌≡◌, refl, sym, ap, ◌∙◌}
use mathlib.Core.Logic.{◌↔◌}
use mathlib.Core.List.{List, [], ◌∷◌, ◌++◌, append_assoc}
use native.Mathlib.Omega.{arith}
use lib.ListN.{length, get_or, take, drop, length-append, take-append-drop, drop_of_length-le}
use lib.Seq.{take_at, drop_at, drop-append-add, drop-append_seam, drop-drop, length-take-le}
use borrow.Author.Tests.{lt-ltb, le-ltb}
use Rattle.base_little.specs.Little.{spell_little}
use Rattle.base_little.proofs.Spelling.{length_little}
use Rattle.ivf_file.specs.declared.IvfHeader.{IvfHeader}
use Rattle.std.specs.Prelude.{None, Some, Ok, Err}
use Rattle.ivf_file.specs.declared.Record.{Record}
use Rattle.ivf_file.specs.File.{file_of}
use Rattle.ivf_file.specs.Record.{RecordRead, record_of, record_number}
use Rattle.ivf_file.specs.Records.{Records, follow, records_from, records_of}
use Rattle.ivf_file.specs.Spelling.{FileValues, spell_header, spell_record, record_from, RecordStands}
use Rattle.ivf_file.specs.Recording.{RecordValues, spell_values, spell_records, RecordsRanged, NoRecord, Recording, Say}
use Rattle.ivf_file.proofs.Table.{record_exactly}
use Rattle.ivf_file.proofs.Inside.{lies}
use Rattle.ivf_file.proofs.Records.{records_step}
use Rattle.ivf_file.proofs.Spelling.{record_spelt, header_spelt, record_spelled, header_spelled, one_header}

length_record : (v : RecordValues) → length (spell_values v) ≡ 12 + length v.bytes
unfolding spell_record
length_record v = rw (length-append, length-append, length_little, length_little) (omega arith)

pub length_header : (v : FileValues) → length (spell_header v) ≡ 32
unfolding spell_header spell_little
length_header v = refl

-- a record's data stands 12 bytes behind its place
data_spelt : (a b : List ℕ) (v : RecordValues) → take (length v.bytes) (drop (length a + 12) (a ++ (spell_values v ++ b))) ≡ v.bytes
unfolding spell_record
data_spelt a b v =
    let twelve = spell_little 4 (length v.bytes) ++ spell_little 8 v.time in
    let l : length twelve ≡ 12 = rw (length-append, length_little, length_little) in
    let e : spell_values v ++ b ≡ twelve ++ (v.bytes ++ b) = rw (append_assoc, append_assoc, append_assoc) in
    rw (drop-append-add a (spell_values v ++ b) 12, e, drop_at twelve (v.bytes ++ b) 12 l) (take_at v.bytes b _ refl)

-- no record is empty
none_empty : NoRecord []
none_empty v rest r e = let l : 0 ≡ length (spell_values v) + length rest = ap length e ∙ length-append (spell_values v) rest in omega (arith, l, length_record v)

module _ (f : List ℕ) (bytes : (i : ℕ) → get_or f i 0 < 256) where
  -- where no record stands
  none_read_lem : (a left : List ℕ) → NoRecord left → f ≡ a ++ left → (g : ℕ → Records) → Say f (follow (record_of f (length a)) g) [] left
  none_read_lem a left none e g = go (record_of f (length a)) refl
    where
      size : length f ≡ length a + length left
      size = rw e (length-append a left)

      go : (x : RecordRead) → record_of f (length a) ≡ x → Say f (follow x g) [] left
      go (Ok None) h = let k : length a ≡ length f = (record_exactly f (length a) (Ok None)).0 h in (refl, sym (le-ltb 0 (length left) (omega (arith, size))))
      go (Err _) h =
          let k = ((record_exactly f (length a) (Err (record {}))).0 h).0 in
          let n : length left ≡ 0 → ⊥ = λ z. k (omega (arith, size)) in
          (refl, sym (lt-ltb 0 (length left) (omega arith)))
      go (Ok (Some r)) h =
          let s = (record_spelled f bytes (length a) r).0 h in
          let d : left ≡ spell_record r.time s.bytes ++ s.rest = sym (drop-append_seam a left) ∙ ap (drop (length a)) (sym e ∙ s.spelled) ∙ drop_at s.before _ (length a) s.at in
          absurd (none (record { time = r.time; bytes = s.bytes }) s.rest (s.length_fits, s.time_fits) d)

  all_read : (n : ℕ) (a : List ℕ) (vs : List RecordValues) (left : List ℕ) → RecordsRanged vs → NoRecord left → f ≡ a ++ (spell_records vs ++ left) → length f ≤ length a + n → Say f (records_from n f (length a)) vs left
  unfolding spell_records
  all_read n a [] left r none e k =
      let size : length f ≡ length a + length left = rw e (length-append a left) in
      rw (records_step f n (length a) (omega arith) k) (none_read_lem a left none e (records_from n f))
  all_read n a (v ∷ vs) left r none e k =
      let s = spell_values v in
      let others = spell_records vs ++ left in
      let l : length (a ++ s) ≡ length a + 12 + length v.bytes = rw (length-append, length_record) (omega arith) in
      let d : f ≡ a ++ (s ++ others) = rw append_assoc at e in
      let here : record_of f (length a) ≡ Ok (Some (record_from (length a) v.time v.bytes)) = rw d (record_spelt a others v.time v.bytes r.0.0 r.0.1) in
      let said : take (length v.bytes) (drop (length a + 12) f) ≡ v.bytes = rw d (data_spelt a others v) in
      let size : length f ≡ length a + length (s ++ others) = rw d (length-append a (s ++ others)) in
      let behind : Say f (records_from n f (length (a ++ s))) vs left = all_read n (a ++ s) vs left r.1 none (rw append_assoc d) (omega arith) in
      let t = rw l at behind in
      rw (records_step f n (length a) (omega arith) k, here, said, t.0, t.1) (refl, refl)

  -- the records of a file that is spelled
  pub records_spelled : (v : FileValues) (vs : List RecordValues) (left : List ℕ) → Recording f v vs left → Say f (records_of f) vs left
  records_spelled v vs left s = rw (length_header v) at (all_read (length f) (spell_header v) vs left s.records_ranged s.no_more s.spelled (omega arith))

  -- what is left over, behind the header and the records
  left_over : (v : FileValues) (vs : List RecordValues) (left : List ℕ) → Recording f v vs left → drop (length (spell_records vs)) (drop (length (spell_header v)) f) ≡ left
  left_over v vs left s = rw (s.spelled, drop-append_seam) (drop-append_seam (spell_records vs) left)

  -- no two spellings fit a file
  pub one_recording : (v w : FileValues) (vs ws : List RecordValues) (left rest : List ℕ) → Recording f v vs left → Recording f w ws rest → (v ≡ w) × (vs ≡ ws) × (left ≡ rest)
  one_recording v w vs ws left rest s t =
      let first : v ≡ w = one_header v w s.header_ranged t.header_ranged _ _ (sym s.spelled ∙ t.spelled) in
      let others : vs ≡ ws = sym (records_spelled v vs left s).0 ∙ (records_spelled w ws rest t).0 in
      (first, others, (rw (first, others) at (sym (left_over v vs left s))) ∙ left_over w ws rest t)

  -- from a place on
  record Behind (p : ℕ) : Type 0 where
    vs : List RecordValues
    left : List ℕ
    ranged : RecordsRanged vs
    no_more : NoRecord left
    spelled : drop p f ≡ spell_records vs ++ left

  nothing_behind : (p : ℕ) → length f ≤ p → Behind p
  unfolding spell_records
  nothing_behind p h = record { vs = []; left = []; ranged = tt; no_more = none_empty; spelled = drop_of_length-le f h }

  none_behind : (p : ℕ) → p ≤ length f → record_of f p ≡ Err (record {}) → NoRecord (drop p f)
  none_behind p h e v rest r d =
      let whole : take p f ++ (spell_values v ++ rest) ≡ f = rw d at (take-append-drop p f) in
      let here = rw (length-take-le p f h, whole) at (record_spelt (take p f) rest v.time v.bytes r.0 r.1) in
      let z : ◌≡◌ {A = ℕ} 8 0 = ap record_number (sym e ∙ here) in
      omega arith

  record_behind : (p : ℕ) (r : Record) → RecordStands f p r → Behind r.next → Behind p
  unfolding spell_records
  record_behind p r s b =
      let v : RecordValues = record { time = r.time; bytes = s.bytes } in
      let next : r.next ≡ p + length (spell_values v) = ap (λ (x : Record). x.next) s.same ∙ omega (arith, length_record v) in
      let here : drop p f ≡ spell_values v ++ s.rest = ap (drop p) s.spelled ∙ drop_at s.before _ p s.at in
      let there : drop r.next f ≡ s.rest = rw (next, ← drop-drop, here) (drop-append_seam (spell_values v) s.rest) in
      record {
        vs = v ∷ b.vs;
        left = b.left;
        ranged = ((s.length_fits, s.time_fits), b.ranged);
        no_more = b.no_more;
        spelled = rw (here, ← there, b.spelled) (sym (append_assoc (spell_values v) (spell_records b.vs) b.left));
      }

  step_behind : (p : ℕ) → p ≤ length f → ((q : ℕ) → p + 12 ≤ q → q ≤ length f → Behind q) → Behind p
  unfolding spell_records
  step_behind p h others = go (record_of f p) refl
    where
      go : (a : RecordRead) → record_of f p ≡ a → Behind p
      go (Ok None) e = let k : p ≡ length f = (record_exactly f p (Ok None)).0 e in nothing_behind p (omega arith)
      go (Err _) e = record { vs = []; left = drop p f; ranged = tt; no_more = none_behind p h e; spelled = refl }
      go (Ok (Some r)) e =
          let w = lies f p r e in
          record_behind p r ((record_spelled f bytes p r).0 e) (others r.next (omega (arith, w.header_first, w.then_data)) w.inside)

  all_behind : (n p : ℕ) → p ≤ length f → length f ≤ p + n → Behind p
  all_behind zero p h k = nothing_behind p (omega arith)
  all_behind (suc n) p h k = step_behind p h (λ q i j. all_behind n q j (omega arith))

  -- a file is an IVF file with a header exactly if it is spelled so
  pub file_spelled : (h : IvfHeader) → (file_of f ≡ Ok h) ↔ ((v : FileValues) × (vs : List RecordValues) × (left : List ℕ) × (v.header ≡ h) × Recording f v vs left)
  file_spelled h = (forth, back)
    where
      back : ((v : FileValues) × (vs : List RecordValues) × (left : List ℕ) × (v.header ≡ h) × Recording f v vs left) → file_of f ≡ Ok h
      back (v, vs, left, e, s) = rw (s.spelled, ← e) (header_spelt v s.header_ranged (spell_records vs ++ left))

      forth : file_of f ≡ Ok h → (v : FileValues) × (vs : List RecordValues) × (left : List ℕ) × (v.header ≡ h) × Recording f v vs left
      forth e =
          let s = (header_spelled f bytes h).0 e in
          let size : length f ≡ 32 + length s.rest = ap length s.spelled ∙ length-append (spell_header s.values) s.rest ∙ rw (length_header s.values) in
          let b = all_behind (length f) 32 (omega arith) (omega arith) in
          let rest : s.rest ≡ drop 32 f = sym (ap (drop 32) s.spelled ∙ drop_at (spell_header s.values) s.rest 32 (length_header s.values)) in
          (s.values, b.vs, b.left, s.same, record { header_ranged = s.in_range; records_ranged = b.ranged; no_more = b.no_more; spelled = rw (rest, b.spelled) at s.spelled })
