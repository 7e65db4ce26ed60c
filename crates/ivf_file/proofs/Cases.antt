-- What `file_of` and `record_of` are in each case.
-- Assumes nothing.
use Prim.Native.Nat.{ℕ, ◌+◌, ◌-◌, ◌<◌, ◌≤◌}
use mathlib.Core.Path.{◌≡◌}
use mathlib.Core.Bool.{Bool, true, false, not}
use mathlib.Core.List.{List}
use native.Mathlib.Omega.{arith}
use lib.ListN.{length}
use borrow.Author.Tests.{not-true, not-false, le-leb, lt-leb, lt-ltb, le-ltb, eq-eqb, ne_eqb}
use Rattle.base_little.specs.Little.{little}
use Rattle.ivf_file.specs.declared.IvfHeader.{IvfHeader}
use Rattle.std.specs.Prelude.{None, Some, Ok, Err}
use Rattle.ivf_file.specs.File.{dkif, vp90, stands_at, header_bytes, header_size, is_ivf, file_header_of, file_of}
use Rattle.ivf_file.specs.Record.{data_length, data_end, record_at, cut_short, record_of}

module _ (f : List ℕ) where
  pub too_short : length f < header_bytes → Err (record {}) ≡ file_of f
  unfolding file_of is_ivf
  too_short h = rw (lt-leb _ _ h)

  -- what is compared, as the code tests it
  module _ (h : header_bytes ≤ length f) (d : Bool) (is-d : d ≡ stands_at f 0 dkif) where
    pub no_dkif : not d ≡ true → Err (record {}) ≡ file_of f
    unfolding file_of is_ivf
    no_dkif t = rw (le-leb _ _ h, ← is-d, not-true d t)

    module _ (has : not d ≡ false) (z : ℕ) (is-z : z ≡ header_size f) where
      pub other_size : (z ≡ header_bytes → ⊥) → Err (record {}) ≡ file_of f
      unfolding file_of is_ivf
      other_size n = rw (le-leb _ _ h, ← is-d, not-false d has, ← is-z, ne_eqb _ _ n)

      module _ (same : z ≡ header_bytes) (v : Bool) (is-v : v ≡ stands_at f 8 vp90) where
        pub no_vp90 : not v ≡ true → Err (record {}) ≡ file_of f
        unfolding file_of is_ivf
        no_vp90 t = rw (le-leb _ _ h, ← is-d, not-false d has, ← is-z, eq-eqb _ _ same, ← is-v, not-true v t)

        pub is_header : not v ≡ false → (r : IvfHeader) → r ≡ file_header_of f → Ok r ≡ file_of f
        unfolding file_of is_ivf
        is_header t r e = rw (le-leb _ _ h, ← is-d, not-false d has, ← is-z, eq-eqb _ _ same, ← is-v, not-false v t, e)

module _ (f : List ℕ) (p : ℕ) where
  pub at_end : p ≡ length f → Ok None ≡ record_of f p
  unfolding record_of
  at_end h = rw (eq-eqb _ _ h)

  module _ (n : p ≡ length f → ⊥) where
    pub cut : length f < data_end f p → Err (record {}) ≡ record_of f p
    unfolding record_of cut_short
    cut h = rw (ne_eqb _ _ n, lt-ltb _ _ h)

    pub whole : data_end f p ≤ length f → Ok (Some (record_at f p)) ≡ record_of f p
    unfolding record_of cut_short
    whole h = rw (ne_eqb _ _ n, le-ltb _ _ h)

    pub past_end : length f < p → Err (record {}) ≡ record_of f p
    past_end h = cut (omega arith)

    module _ (h : p ≤ length f) where
      pub cut_header : length f - p < 12 → Err (record {}) ≡ record_of f p
      cut_header l = cut (omega arith)

      module _ (k : 12 ≤ length f - p) (z : ℕ) (e : z ≡ data_length f p) where
        pub cut_data : length f - p - 12 < z → Err (record {}) ≡ record_of f p
        cut_data l = cut (omega arith)

        pub is_record : z ≤ length f - p - 12 → (t : ℕ) → t ≡ little f (p + 4) 8 → Ok (Some (record { length = z; time = t; «data» = p + 12; next = p + 12 + z })) ≡ record_of f p
        unfolding record_at
        is_record l t d = let i : data_end f p ≤ length f = omega arith in rw (← whole i, e, d)
