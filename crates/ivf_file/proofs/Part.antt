-- A caller that lends only a part of the file: the header is in its first 32 bytes, and a record's length in
-- the record's first 12.
-- Assumes nothing.
use Prim.Native.Nat.{ℕ, zero, suc, ◌+◌, ◌<◌, ◌≤◌}
use mathlib.Core.Path.{◌≡◌, refl, sym}
use mathlib.Core.Logic.{⊎_elim}
use mathlib.Core.List.{List, [], ◌∷◌}
use native.Mathlib.Nat.{add-zero, zero-add}
use native.Mathlib.Omega.{arith}
use lib.ListN.{length, take, drop, length-take, length-drop}
use lib.Seq.{get_or-drop, get_or-take, take_all, length-take-le}
use borrow.Author.Tests.{le-leb}
use Rattle.base_little.specs.Little.{little, read_little}
use Rattle.base_little.proofs.Bytes.{little_value}
use Rattle.base_shared.proofs.Order.{below}
use Rattle.ivf_file.specs.declared.Record.{Record}
use Rattle.std.specs.Prelude.{Some, Ok}
use Rattle.ivf_file.specs.File.{dkif, vp90, stands_at, is_ivf, file_header_of, file_of}
use Rattle.ivf_file.specs.Record.{data_end, record_at, record_of}
use Rattle.ivf_file.proofs.Inside.{whole}

-- a number in a part of a list
pub little_part : (s : List ℕ) (p m at n : ℕ) → at + n ≤ m → little (take m (drop p s)) at n ≡ little s (p + at) n
unfolding little
little_part s p m at zero h = refl
little_part s p m at (suc n) h =
    let l : at < m = omega arith in
    let o : p + (at + 1) ≡ p + at + 1 = omega arith in
    rw (get_or-take, get_or-drop, little_part s p m (at + 1) n (omega arith), o)

stands_first : (s : List ℕ) (m at : ℕ) (bs : List ℕ) → at + length bs ≤ m → stands_at (take m s) at bs ≡ stands_at s at bs
unfolding stands_at
stands_first s m at [] h = refl
stands_first s m at (b ∷ bs) h = let l : at < m = omega arith in rw (get_or-take, stands_first s m (at + 1) bs (omega arith))

-- the first 32 bytes of a file give what the whole file gives
pub header_first : (f : List ℕ) → file_of (take 32 f) ≡ file_of f
unfolding file_of is_ivf file_header_of
header_first f = ⊎_elim (λ l. rw (take_all 32 f (omega arith))) long (below (length f) 32)
  where
    long : 32 ≤ length f → file_of (take 32 f) ≡ file_of f
    long h =
        let number : (at n : ℕ) → at + n ≤ 32 → little (take 32 f) at n ≡ little f at n = λ at n l. rw zero-add at (little_part f 0 32 at n l) in
        rw (length-take-le 32 f h, le-leb 32 (length f) h, stands_first f 32 0 dkif (omega arith), stands_first f 32 8 vp90 (omega arith))
        (rw (number 6 2 (omega arith), number 12 2 (omega arith), number 14 2 (omega arith), number 16 4 (omega arith), number 20 4 (omega arith), number 24 4 (omega arith)))

module _ (f : List ℕ) (p : ℕ) (r : Record) (e : record_of f p ≡ Ok (Some r)) where
  -- its length is what its 12-byte header alone says
  pub length_first : read_little (take 12 (drop p f)) 0 4 ≡ Ok r.length
  unfolding record_at
  length_first =
      let end : data_end f p ≤ length f = (whole f p r e).0 in
      let four : 0 + 4 ≤ length (take 12 (drop p f)) = simp (length-take, length-drop) (omega arith) in
      sym (little_value (take 12 (drop p f)) 0 4 r.length (rw ((whole f p r e).1, little_part f p 12 0 4 (omega arith), add-zero)) (omega arith) four)
