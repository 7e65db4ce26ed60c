-- A chunk of bytes has an index exactly if it ends in the spelling of values in range. They are the only ones, and
-- they say how the frames lie.
-- Assumes nothing.
use Prim.Native.Nat.{ℕ, zero, suc, ◌+◌, ◌-◌, ◌*◌, ◌/◌, ◌%◌, ◌^◌, ◌≤◌, ◌<◌}
use mathlib.Core.Path.{◌≡◌, refl, sym, ap, ◌∙◌}
use mathlib.Core.Logic.{⊎_elim}
use mathlib.Core.List.{List, [], ◌∷◌, ◌++◌, append_assoc}
use native.Mathlib.Nat.{zero-mul, suc-mul, add-zero}
use native.Mathlib.Numerals.{add-one}
use native.Mathlib.Omega.{arith}
use lib.ListN.{length, get_or, take, drop, length-append, take-append-drop, drop_of_length-le}
use lib.Seq.{append_snoc, get_or-append_seam, get_or_at, drop-cons, take-add, drop-drop, take-append_seam, ext_get_or}
use Rattle.base_little.specs.Little as Little
use Rattle.base_little.specs.Little.{little, spell_little}
use Rattle.chunk_index.specs.Layout.{frames_in, bytes_per_size, index_bytes, index_start, last_byte, layout_of}
use Rattle.chunk_index.specs.Table.{Cut, Indexed}
use Rattle.chunk_index.specs.Spelling.{IndexValues, spell_sizes, header_byte, spell_index, Below, IndexRanged, LaidBy}
use Rattle.base_shared.proofs.Order.{below}
use Rattle.chunk_index.proofs.Cases.{layout_indexed}
use Rattle.base_little.proofs.Spelling.{length_little, little_spelt}

length_sizes : (n : ℕ) (zs : List ℕ) → length (spell_sizes n zs) ≡ length zs * n
unfolding spell_sizes
length_sizes n [] = sym (rw zero-mul)
length_sizes n (z ∷ zs) = rw (length-append, length_little, length_sizes n zs, suc-mul) (omega arith)

-- size i stands where its spelling does
size_spelt : (a b : List ℕ) (n : ℕ) (zs : List ℕ) (i : ℕ) → Below (256 ^ n) zs → i < length zs → little (a ++ (spell_sizes n zs ++ b)) (length a + i * n) n ≡ get_or zs i 0
unfolding spell_sizes
size_spelt a b n [] i r h = absurd (omega arith)
size_spelt a b n (z ∷ zs) zero r h = rw (append_assoc, zero-mul, add-zero) (little_spelt a (spell_sizes n zs ++ b) n z r.0)
size_spelt a b n (z ∷ zs) (suc i) r h =
    let at : length a + suc i * n ≡ length (a ++ spell_little n z) + i * n = rw (length-append, length_little, suc-mul) (omega arith) in
    rw (at, append_assoc, ← append_assoc a) (size_spelt (a ++ spell_little n z) b n zs i r.1 (omega arith))

last_of : (p : List ℕ) (b : ℕ) → last_byte (p ++ (b ∷ [])) ≡ b
last_of p b = get_or_at p b [] 0 _ (omega (arith, length-append p (b ∷ [])))

module _ (fs : List ℕ) (v : IndexValues) (r : IndexRanged v) where
  length_spelt : length (fs ++ spell_index v) ≡ length fs + (2 + length v.sizes * (v.bytes_minus_1 + 1))
  unfolding spell_index
  length_spelt = rw (length-append, length-append, length_sizes) (omega arith)

  last_spelt : last_byte (fs ++ spell_index v) ≡ header_byte v
  unfolding spell_index
  last_spelt = rw (← append_assoc fs (header_byte v ∷ spell_sizes (v.bytes_minus_1 + 1) v.sizes)) (last_of (fs ++ (header_byte v ∷ spell_sizes (v.bytes_minus_1 + 1) v.sizes)) (header_byte v))

  frames_spelt : frames_in (header_byte v) ≡ length v.sizes
  frames_spelt = omega (arith, r.some, r.most)

  bytes_spelt : bytes_per_size (header_byte v) ≡ v.bytes_minus_1 + 1
  bytes_spelt = omega (arith, r.some, r.most, r.bytes)

  per_size : bytes_per_size (last_byte (fs ++ spell_index v)) ≡ v.bytes_minus_1 + 1
  per_size = rw last_spelt bytes_spelt

  index_spelt : index_bytes (last_byte (fs ++ spell_index v)) ≡ 2 + length v.sizes * (v.bytes_minus_1 + 1)
  index_spelt = rw (last_spelt, frames_spelt, bytes_spelt)

  start_spelt : index_start (fs ++ spell_index v) ≡ length fs
  start_spelt = omega (arith, length_spelt, index_spelt)

  -- it isn't cut short, and its first byte is the header too
  pub spelt_whole : Cut (fs ++ spell_index v) → ⊥
  spelt_whole k = omega (arith, length_spelt, index_spelt, k.1)

  pub spelt_indexed : Indexed (fs ++ spell_index v)
  unfolding spell_index
  spelt_indexed = (rw last_spelt (omega (arith, r.bytes, r.most)), rw (start_spelt, last_spelt) (get_or-append_seam fs (header_byte v) _ 0))

  -- its values say how the frames lie
  pub spelt_laid : LaidBy (length fs) v (layout_of (fs ++ spell_index v))
  unfolding spell_index
  spelt_laid = rw (layout_indexed _ spelt_indexed) (record {
    same_room = start_spelt;
    same_frames = rw last_spelt frames_spelt;
    same_sizes = λ i h.
        let b = header_byte v in
        let l : length fs + 1 ≡ length (fs ++ (b ∷ [])) = sym (length-append fs (b ∷ [])) in
        rw (start_spelt, last_spelt, bytes_spelt, l, ← append_snoc fs b) (size_spelt (fs ++ (b ∷ [])) (b ∷ []) (v.bytes_minus_1 + 1) v.sizes i r.sizes h);
  })

-- the other way round: what the n bytes of a number are
below_at : {m : ℕ} (s : List ℕ) (i : ℕ) → Below m s → i < length s → get_or s i 0 < m
below_at [] i r h = absurd (omega arith)
below_at (b ∷ s) zero r h = r.0
below_at (b ∷ s) (suc i) r h = below_at s i r.1 (omega arith)

module _ (s : List ℕ) (bytes : Below 256 s) where
  little_bytes : (at n : ℕ) → at + n ≤ length s → (spell_little n (little s at n) ≡ take n (drop at s)) × (little s at n < 256 ^ n)
  unfolding spell_little Little.little
  little_bytes at zero h = (refl, omega arith)
  little_bytes at (suc n) h =
      let rest = little_bytes (at + 1) n (omega arith) in
      let x = get_or s at 0 in
      let y = little s (at + 1) n in
      let small = below_at s at bytes (omega arith) in
      let low : (x + 256 * y) % 256 ≡ x = omega arith in
      let high : (x + 256 * y) / 256 ≡ y = omega arith in
      (rw (low, high, drop-cons s at 0 (omega arith), ← add-one at, rest.0), omega (arith, rest.1))

-- the k sizes of n bytes from `at` on
sizes_at : List ℕ → ℕ → ℕ → ℕ → List ℕ
sizes_at s at n zero = []
sizes_at s at n (suc k) = little s at n ∷ sizes_at s (at + n) n k

length_at : (s : List ℕ) (at n k : ℕ) → length (sizes_at s at n k) ≡ k
unfolding sizes_at
length_at s at n zero = refl
length_at s at n (suc k) = ap suc (length_at s (at + n) n k)

sizes_bytes : (s : List ℕ) → Below 256 s → (at n k : ℕ) → at + k * n ≤ length s → (spell_sizes n (sizes_at s at n k) ≡ take (k * n) (drop at s)) × Below (256 ^ n) (sizes_at s at n k)
unfolding sizes_at spell_sizes
sizes_bytes s bytes at n zero h = (rw zero-mul, tt)
sizes_bytes s bytes at n (suc k) h =
    let m : suc k * n ≡ n + k * n = rw suc-mul (omega arith) in
    let here = little_bytes s bytes at n (omega arith) in
    let rest = sizes_bytes s bytes (at + n) n k (omega arith) in
    (rw (here.0, rest.0, m, take-add, drop-drop), (here.1, rest.1))

drop_last : (s : List ℕ) → 0 < length s → drop (length s - 1) s ≡ last_byte s ∷ []
drop_last s h = rw (drop-cons s (length s - 1) 0 (omega arith), drop_of_length-le s {i = suc (length s - 1)} (omega arith))

-- a list that has b at p and, after m elements more, at its end
both_ends : (s : List ℕ) (p m b : ℕ) → length s ≡ p + (2 + m) → get_or s p 0 ≡ b → last_byte s ≡ b → s ≡ take p s ++ (b ∷ (take m (drop (p + 1) s) ++ (b ∷ [])))
both_ends s p m b l e f =
    let first : drop p s ≡ b ∷ drop (p + 1) s = rw (drop-cons s p 0 (omega arith), e, add-one) in
    let at : p + 1 + m ≡ length s - 1 = omega arith in
    let last : drop m (drop (p + 1) s) ≡ b ∷ [] = rw (drop-drop, at, ← f) (drop_last s (omega arith)) in
    sym (take-append-drop p s) ∙ rw (first, ← last, take-append-drop)

-- a chunk of bytes that has an index ends in the spelling of its values
pub indexed_spelt : (s : List ℕ) → Below 256 s → Indexed s → (Cut s → ⊥) → (fs : List ℕ) × (v : IndexValues) × IndexRanged v × (s ≡ fs ++ spell_index v)
unfolding spell_index
indexed_spelt s bytes i whole =
    let b = last_byte s in
    let p = index_start s in
    let n = bytes_per_size b in
    let k = frames_in b in
    let room : index_bytes b ≤ length s = ⊎_elim (λ l. absurd (whole (i.0, l))) (λ l. l) (below (length s) (index_bytes b)) in
    let l : length s ≡ p + (2 + k * n) = omega arith in
    let v : IndexValues = record { bytes_minus_1 = b / 8 % 4; sizes = sizes_at s (p + 1) n k } in
    let count : length v.sizes ≡ k = length_at s (p + 1) n k in
    let header : header_byte v ≡ b = rw count (omega (arith, i.0)) in
    let sizes = sizes_bytes s bytes (p + 1) n k (omega arith) in (
      take p s,
      v,
      record { bytes = omega arith; some = omega arith; most = omega arith; sizes = sizes.1 },
      rw (header, sizes.0) (both_ends s p (k * n) b l i.1 refl),
    )

-- and no other values' spelling ends it
pub one_index : (fs gs : List ℕ) (v w : IndexValues) → IndexRanged v → IndexRanged w → fs ++ spell_index v ≡ gs ++ spell_index w → (fs ≡ gs) × (v ≡ w)
one_index fs gs v w r q e =
    let a = spelt_laid fs v r in
    let b : LaidBy (length gs) w (layout_of (fs ++ spell_index v)) = rw e (spelt_laid gs w q) in
    let room : length fs ≡ length gs = sym a.same_room ∙ b.same_room in
    let count : length v.sizes ≡ length w.sizes = sym a.same_frames ∙ b.same_frames in
    let sizes : v.sizes ≡ w.sizes = ext_get_or 0 v.sizes w.sizes count (λ i h. sym (a.same_sizes i h) ∙ b.same_sizes i (omega arith)) in
    let per : v.bytes_minus_1 + 1 ≡ w.bytes_minus_1 + 1 = sym (per_size fs v r) ∙ rw e (per_size gs w q) in
    let bytes : v.bytes_minus_1 ≡ w.bytes_minus_1 = omega arith in
    let same : record { bytes_minus_1 = v.bytes_minus_1; sizes = v.sizes } ≡ w = rw (bytes, sizes) in
    (sym (take-append_seam fs (spell_index v)) ∙ rw (e, room) (take-append_seam gs (spell_index w)), same)
