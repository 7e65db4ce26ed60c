-- The next record, as the code meets it.
-- Assumes nothing.
use Prim.Native.Nat.{ℕ, ◌+◌, ◌≤◌, ◌<◌}
use mathlib.Core.Path.{◌≡◌}
use mathlib.Core.Bool.{Bool}
use mathlib.Core.List.{List}
use native.Mathlib.Omega.{arith}
use lib.ListN.{length}
use borrow.Author.Tests.{lt-ltb, le-ltb, eq-eqb, ne_eqb}
use Rattle.base_little.specs.Little.{little}
use Rattle.ivf_arriving.specs.declared.Next.TheVariants.{Data, Long}
use Rattle.ivf_arriving.specs.Next.{empty_by, short_by, data_by, next_record}

module _ (s : List ℕ) (ended : Bool) where
  pub none_there : length s ≡ 0 → empty_by ended ≡ next_record s ended
  unfolding next_record
  none_there e = rw (eq-eqb (length s) 0 e)

  pub header_cut : (length s ≡ 0 → ⊥) → length s < 12 → short_by ended ≡ next_record s ended
  unfolding next_record
  header_cut z h = rw (ne_eqb (length s) 0 z, lt-ltb (length s) 12 h)

  module _ (n : ℕ) (e : n ≡ little s 0 4) (h : 12 ≤ length s) where
    whole_header : data_by s ended n ≡ next_record s ended
    unfolding next_record
    whole_header = rw (ne_eqb (length s) 0 (λ z. omega arith), le-ltb (length s) 12 h, e)

    pub too_long_lem : 65536 < n → Long n ≡ next_record s ended
    unfolding data_by
    too_long_lem l = rw (lt-ltb 65536 n l) at whole_header

    pub data_cut : n ≤ 65536 → length s < 12 + n → short_by ended ≡ next_record s ended
    unfolding data_by
    data_cut l k = rw (le-ltb 65536 n l, lt-ltb (length s) (12 + n) k) at whole_header

    pub data_there : n ≤ 65536 → 12 + n ≤ length s → Data n ≡ next_record s ended
    unfolding data_by
    data_there l k = rw (le-ltb 65536 n l, le-ltb (length s) (12 + n) k) at whole_header
