-- The records of a whole file.
-- Assumes nothing.
use Prim.Native.Nat.{ℕ, zero, suc, ◌+◌, ◌≤◌}
use mathlib.Core.Path.{◌≡◌, refl}
use mathlib.Core.List.{List}
use native.Mathlib.Omega.{arith}
use lib.ListN.{length}
use Rattle.std.specs.Prelude.{None, Some, Ok, Err}
use Rattle.ivf_file.specs.Record.{RecordRead, record_of}
use Rattle.ivf_file.specs.Records.{Records, follow, records_from}
use Rattle.ivf_file.proofs.Table.{ends}
use Rattle.ivf_file.proofs.Inside.{lies}

module _ (f : List ℕ) where
  -- the same behind a record, the same from it on
  after : (g h : ℕ → Records) (p : ℕ) → ((q : ℕ) → p + 12 ≤ q → q ≤ length f → g q ≡ h q) → follow (record_of f p) g ≡ follow (record_of f p) h
  after g h p same = go (record_of f p) refl
    where
      go : (a : RecordRead) → record_of f p ≡ a → follow a g ≡ follow a h
      go (Ok None) e = refl
      go (Err _) e = refl
      go (Ok (Some r)) e = let w = lies f p r e in rw (same r.next (omega (arith, w.header_first, w.then_data)) w.inside)

  -- as many as there are bytes left are all
  pub enough : (n m p : ℕ) → p ≤ length f → length f ≤ p + n → length f ≤ p + m → records_from n f p ≡ records_from m f p
  unfolding records_from
  enough zero zero p h k l = refl
  enough zero (suc m) p h k l = let e : record_of f p ≡ Ok None = ends f p (omega arith) in rw e
  enough (suc n) zero p h k l = let e : record_of f p ≡ Ok None = ends f p (omega arith) in rw e
  enough (suc n) (suc m) p h k l = after (records_from n f) (records_from m f) p (λ q i j. enough n m q j (omega arith) (omega arith))

  -- what is read at a place, and then the records behind it
  pub records_step : (n p : ℕ) → p ≤ length f → length f ≤ p + n → records_from n f p ≡ follow (record_of f p) (records_from n f)
  unfolding records_from
  records_step n p h k = enough n (suc n) p h k (omega arith)
