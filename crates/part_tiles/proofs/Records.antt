-- The records that the code makes are those of the values.
-- Assumes nothing.
use Prim.Native.Nat.{ℕ, ◌+◌, ◌-◌, ◌≤◌, ◌<◌, ◌^◌}
use Prim.Native.String.{String}
use mathlib.Core.Path.{◌≡◌, sym, ap, ◌∙◌}
use mathlib.Core.Bool.{Bool}
use mathlib.Core.List.{List}
use native.Mathlib.Omega.{arith}
use lib.Dec.{T, leb, leb→le}
use mir.Val.{Fits, bits}
use mir.Syntax.{Width, w8}
use Rattle.std.specs.Prelude.{Result, Ok, Err}
use Rattle.std.specs.Result.{IsErrAnd, result_from_control_flow}
use Rattle.std.proofs.Common.{Continue, Break}
use Rattle.std.proofs.lemmas.Result.{err_from_is_err_and}
use Rattle.base_bits.specs.declared.Cursor.{Cursor}
use Rattle.base_bits.specs.declared.Refusal.{Refusal}
use Rattle.base_bits.specs.Read.{read_bits, read_bits_if}
use Rattle.base_syntax.specs.Reader.{Read, read, stopped, over}
use Rattle.part_field.specs.PastEnd.{past_end}
use Rattle.part_field.proofs.Steps.{value_lt, value_if_lt}
use Rattle.grammar_tables.specs.Reading.{read_run, read_cols}
use Rattle.part_coded.proofs.Run.{Counted, counted_full}
use Rattle.part_tiles.specs.declared.Tiles.{Tiles}
use Rattle.grammar_tables.proofs.Laws.{run_reads, run_few}
use Rattle.grammar_tables.specs.Tables.{superblocks, least, most, span}
use Rattle.part_tiles.specs.Tiles.{cols_of, tiles_of}
use Rattle.grammar_tables.proofs.Limits.{least_most, most_le}

-- a count that was read, and one that wasn't
counted : (m : Read ℕ) (v : ℕ × Cursor) → Ok v ≡ over (λ a. a) m → m ≡ read v.0 v.1.at
counted (read a q) v h =
    let va : v ≡ (a, record { at = q }) = cc in
    rw va
counted (stopped w) v h = let z : ◌≡◌ {A = ℕ} 0 1 = cc in absurd (omega arith)

uncounted : (f : ℕ → ℕ) (m : Read ℕ) (e : Refusal) → Err e ≡ over (λ a. a) m → Err e ≡ over f m
uncounted f (read a q) e h = let z : ◌≡◌ {A = ℕ} 0 1 = cc in absurd (omega arith)
uncounted f (stopped w) e h = h

-- a loop that came to its limit
pub all_counted : {x : String} {b n k : ℕ} {s : List ℕ} {p : ℕ} (c : Cursor) → Counted x b n s p k c.at → n ≤ k → Ok (n, c) ≡ over (λ a. a) (read_run x b 0 n s p)
all_counted {n = n} {k = k} c l h = let kn : k ≡ n = omega (arith, l.within) in rw kn at (counted_full l h)

-- the columns, from the limits lo and hi of w superblocks
module _ (width w lo hi : ℕ) (ew : w ≡ superblocks width) (el : lo ≡ least w) (eh : hi ≡ most w) where
  lo_is : lo ≡ least (superblocks width)
  lo_is = el ∙ ap least ew

  hi_is : hi ≡ most (superblocks width)
  hi_is = eh ∙ ap most ew

  pub cols_ordered : width < 2 ^ 32 → lo ≤ hi
  cols_ordered small = rw (lo_is, hi_is) (least_most (superblocks width) (omega arith))

  module _ (s : List ℕ) (p : ℕ) (r : Result (ℕ × Cursor) Refusal) (e : r ≡ over (λ k. k) (read_run "increment_tile_cols_log2" 1 0 (hi - lo) s p)) {b : _} (d : r ≡ result_from_control_flow b) where
    module _ (k : ℕ) (c : Cursor) (h : b ≡ Continue (k, c)) where
      run : read_cols width s p ≡ read k c.at
      run = rw (← lo_is, ← hi_is) (counted (read_run "increment_tile_cols_log2" 1 0 (hi - lo) s p) (k, c) (sym (rw h at d) ∙ e))

      pub cols_fit : width < 2 ^ 32 → Fits w8 (lo + k)
      cols_fit small =
          let few : k ≤ span width = run_few "increment_tile_cols_log2" 0 (span width) k ((run_reads "increment_tile_cols_log2" 0 (span width)).sound s p k c.at run).1.ranged in
          record { fits = omega (arith, lo_is, hi_is, cols_ordered small, most_le (superblocks width)) }

      pub cols_read : Ok (lo + k, c) ≡ over (cols_of width) (read_cols width s p)
      cols_read = rw (run, lo_is)

    pub cols_short : {z : _} (y : Result (ℕ × Cursor) Refusal) → b ≡ Break z → IsErrAnd y (λ w. w ≡ z.0) → y ≡ over (cols_of width) (read_cols width s p)
    cols_short {z} y h i =
        let j = err_from_is_err_and y i in
        rw (j.1, j.2, ← lo_is, ← hi_is) (uncounted (cols_of width) (read_run "increment_tile_cols_log2" 1 0 (hi - lo) s p) z.0 (sym (rw h at d) ∙ e))

-- the rows: the sum of two bits
pub rows_fit : (w : Width) (s : List ℕ) (p q a m : ℕ) (x y : Result (ℕ × Cursor) Refusal) (c d : Cursor) {f g : _} (b : Bool)
    → x ≡ past_end (read_bits s p 1) → x ≡ result_from_control_flow f → f ≡ Continue (a, c) → y ≡ past_end (read_bits_if b s q 1) → y ≡ result_from_control_flow g → g ≡ Continue (m, d) → T (leb 3 (2 ^ bits w)) → Fits w (a + m)
rows_fit w s p q a m x y c d b ex fx ax ey fy ay t =
    let one = value_lt s p 1 x a c ex fx ax tt in
    let two = value_if_lt b s q 1 y ey tt m d fy ay in
    record { fits = omega (arith, leb→le 3 (2 ^ bits w) t) }

pub tiles_read : (width cols k a m : ℕ) (c : Cursor) → cols ≡ cols_of width k
    → ◌≡◌ {A = Result (Tiles × Cursor) Refusal} (Ok (record { cols_log2 = cols; rows_log2 = a + m }, c))
    (over (tiles_of width) (read (record { increment_tile_cols_log2 = k; tile_rows_log2 = a; increment_tile_rows_log2 = m }) c.at))
unfolding tiles_of
tiles_read width cols k a m c e = rw e
