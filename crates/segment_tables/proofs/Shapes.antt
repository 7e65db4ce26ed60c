-- Every table has its shape, by tests that are computed over the whole table and one law that reads them.
use mathlib.Core.Bool.{Bool, true, false}
use mathlib.Core.List.{List, [], ◌∷◌}
use mathlib.Core.Logic.{⊎_elim}
use Prim.Native.Nat.{ℕ, zero, suc, ◌+◌, ◌-◌, ◌<◌, ◌≤◌}
use native.Mathlib.Nat.{le_of_suc-le-suc, not-suc-le-zero, eq-or-lt_of_le}
use native.Mathlib.Omega.{arith}
use lib.Dec.{T, leb, ltb, eqb, leb→le, ltb→lt, eqb→eq}
use lib.ListN.{length, get_or}
use Rattle.base_enums.specs.declared.BitDepth.{BitDepth}
use Rattle.base_enums.specs.declared.BitDepth.TheVariants.{Depth8, Depth10, Depth12}
use Rattle.segment_tables.specs.Lists.{dc_qlookup8, dc_qlookup10, dc_qlookup12, ac_qlookup8, ac_qlookup10, ac_qlookup12}
use Rattle.segment_tables.specs.Tables.{dc_row, ac_row}
use Rattle.segment_tables.specs.Shape.{Shaped, dc_step}

abbrev both : Bool → Bool → Bool
both true b = b
both false b = false

split : (a b : Bool) → T (both a b) → T a × T b
split true b t = (tt, t)
split false b t = absurd t

module _ (step : ℕ) where
  -- each number is at least step above the one before it, and the first above low
  abbrev climbs : ℕ → List ℕ → Bool
  climbs low [] = true
  climbs low (x ∷ xs) = both (leb (low + step) x) (climbs x xs)

  -- what the test says of its first number, and of the rest
  first : (low x : ℕ) (xs : List ℕ) → T (climbs low (x ∷ xs)) → low + step ≤ x
  first low x xs t = leb→le (low + step) x (split (leb (low + step) x) (climbs x xs) t).0

  rest : (low x : ℕ) (xs : List ℕ) → T (climbs low (x ∷ xs)) → T (climbs x xs)
  rest low x xs t = (split (leb (low + step) x) (climbs x xs) t).1

  above : (low : ℕ) (xs : List ℕ) → T (climbs low xs) → (j : ℕ) → j < length xs → low + step ≤ get_or xs j 0
  above low [] t j h = absurd (not-suc-le-zero h)
  above low (x ∷ xs) t zero h = first low x xs t
  above low (x ∷ xs) t (suc j) h = omega (arith, first low x xs t, above x xs (rest low x xs t) j (le_of_suc-le-suc h))

  rises : (low : ℕ) (xs : List ℕ) → T (climbs low xs) → (i j : ℕ) → i < j → j < length xs → get_or xs i 0 + step ≤ get_or xs j 0
  rises low [] t i j p h = absurd (not-suc-le-zero h)
  rises low (x ∷ xs) t i zero p h = absurd (not-suc-le-zero p)
  rises low (x ∷ xs) t zero (suc j) p h = above x xs (rest low x xs t) j (le_of_suc-le-suc h)
  rises low (x ∷ xs) t (suc i) (suc j) p h = rises x xs (rest low x xs t) i j (le_of_suc-le-suc p) (le_of_suc-le-suc h)

  shaped : (t : List ℕ) → T (eqb (length t) 256) → T (climbs (1 - step) t) → T (ltb (get_or t 255 0) 32768) → Shaped step t
  shaped t counted up below =
      let size = eqb→eq (length t) 256 counted in
      let last = ltb→lt (get_or t 255 0) 32768 below in
      record {
        size = size;
        positive = λ i h. omega (arith, above (1 - step) t up i (omega arith));
        within = λ i h. ⊎_elim
            (λ e. rw e last)
            (λ l. omega (arith, rises (1 - step) t up i 255 l (omega arith)))
            (eq-or-lt_of_le {n = i} {m = 255} (omega arith));
        rising = λ i j l h. rises (1 - step) t up i j l (omega arith);
      }

pub dc_shaped : (d : BitDepth) → Shaped (dc_step d) (dc_row d)
unfolding dc_row dc_step dc_qlookup8 dc_qlookup10 dc_qlookup12
dc_shaped Depth8 = shaped _ dc_qlookup8 tt tt tt
dc_shaped Depth10 = shaped _ dc_qlookup10 tt tt tt
dc_shaped Depth12 = shaped _ dc_qlookup12 tt tt tt

pub ac_shaped : (d : BitDepth) → Shaped 1 (ac_row d)
unfolding ac_row ac_qlookup8 ac_qlookup10 ac_qlookup12
ac_shaped Depth8 = shaped _ ac_qlookup8 tt tt tt
ac_shaped Depth10 = shaped _ ac_qlookup10 tt tt tt
ac_shaped Depth12 = shaped _ ac_qlookup12 tt tt tt
