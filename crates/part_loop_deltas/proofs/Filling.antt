-- The loop that fills a row of deltas, and the row that says which are coded.
-- Assumes nothing.
use Prim.Native.Nat.{ℕ, zero, suc, ◌+◌, ◌≤◌, ◌<◌}
use Prim.Native.String.{String}
use mathlib.Core.Path.{◌≡◌, refl, sym, ◌∙◌}
use mathlib.Core.Bool.{Bool, false}
use mathlib.Core.List.{List, [], ◌∷◌, ◌++◌, append_assoc, append-nil}
use native.Mathlib.Omega.{arith}
use lib.IntN.{ℤ, pos}
use lib.ListN.{length, get_or, set, take, replicate, length-append}
use mir.Val.{SFits, to_z, of_z}
use mir.Facts.{to_z-of_z}
use mir.Syntax.{w8}
use Rattle.std.specs.Prelude.{Result, Ok, Err}
use Rattle.std.specs.Result.{IsErrAnd, result_from_control_flow}
use Rattle.std.proofs.Common.{Continue, Break}
use Rattle.std.proofs.lemmas.List.{length-replicate, length-take-le}
use Rattle.base_bits.specs.declared.BitsError.{BitsError}
use Rattle.base_bits.specs.declared.Cursor.{Cursor}
use Rattle.base_bits.specs.declared.Refusal.{Refusal}
use Rattle.base_bits.specs.declared.Refusal.TheVariants.{PastEnd}
use Rattle.base_bits.specs.Refusal.{item}
use Rattle.base_shared.specs.Choice.{pick}
use Rattle.base_syntax.specs.Syntax.{flag}
use Rattle.base_syntax.specs.Reader.{Read, read, stopped, bind, over, Reader}
use Rattle.base_syntax.specs.Many.{Times, many, folds, each_of}
use Rattle.base_syntax.proofs.Rows.{seen, both, over_same, grown, Filled, fill_start, fill_turn, fill_stop, fill_end, row_end}
use Rattle.part_coded.specs.declared.Delta.{Delta}
use Rattle.part_coded.specs.Delta.{delta_of, NarrowIs}
use Rattle.part_coded.proofs.Steps.{delta_step, delta_stop}
use Rattle.grammar_tables.specs.Tables.{DeltaValues}
use Rattle.grammar_tables.specs.Reading.{read_delta}
use Rattle.grammar_settings.specs.Settings.{delta_value, moved_from}
use Rattle.part_loop_deltas.specs.declared.Deltas.{Deltas}
use Rattle.part_loop_deltas.specs.LoopDeltas.{delta_moved, deltas_of, DeltasAre}

abbrev on : DeltaValues → Bool
on a = flag a.coded

-- the next delta of a row, which goes by the old one at its place
abbrev moved : List ℤ → List ℤ → DeltaValues → ℤ
moved old l a = pick (flag a.coded) (delta_value a) (get_or old (length l) (pos 0))

moved_each : (old : List ℤ) (n : ℕ) (l : List ℤ) (v : Times n DeltaValues) → folds (grown (moved old)) n l v ≡ l ++ moved_from (length l) n v old
unfolding folds
moved_each old zero l v = sym (append-nil l)
moved_each old (suc n) l v =
    let more : length (grown (moved old) l v.0) ≡ length l + 1 = length-append l (moved old l v.0 ∷ []) in
    moved_each old n (grown (moved old) l v.0) v.1 ∙ rw more (append_assoc l (moved old l v.0 ∷ []) (moved_from (length l + 1) n v.1 old))

-- delta i, under the names x, y and z
abbrev delta : String → String → String → ℕ → Reader DeltaValues
delta x y z i = read_delta (item x i) (item y i) (item z i) 6

-- i of n deltas stand in the rows l and m
pub record DeltasFilling (n : ℕ) (old : List ℤ) (s : List ℕ) (p₀ i p : ℕ) (l : List Bool) (m : List ℤ) : Type 0 where
  pub coded : (x y z : String) → Filled (λ k. on) n (delta x y z) s p₀ i p l
  pub values : (x y z : String) → Filled (moved old) n (delta x y z) s p₀ i p m

pub deltas_start : (n : ℕ) (old : List ℤ) (s : List ℕ) (p : ℕ) → length old ≡ n → DeltasFilling n old s p 0 p (replicate n false) old
deltas_start n old s p e = record {
  coded = λ x y z. fill_start (λ k. on) n (delta x y z) s p (replicate n false) (length-replicate n false);
  values = λ x y z. fill_start (moved old) n (delta x y z) s p old e;
}

-- a reading that is all there is to read
alone : {A : Type 0} (m : Read A) → bind m (λ a p. read a p) ≡ m
alone (read a p) = refl
alone (stopped w) = refl

module _ {n : ℕ} {old : List ℤ} {s : List ℕ} {p₀ i p : ℕ} {l : List Bool} {m : List ℤ} (h : DeltasFilling n old s p₀ i p l m) where
  pub deltas_end : n ≤ i → DeltasAre s p₀ n old (Ok (record { coded = l; values = m }, record { at = p }))
  unfolding deltas_of
  deltas_end all x y z =
      both (each_of on n) (λ v. moved_from 0 n v old) (λ a b. record { coded = a; values = b }) (many 0 n (delta x y z) s p₀)
      (row_end (h.coded x y z) all)
      (fill_end (h.values x y z) all ∙ over_same (folds (grown (moved old)) n []) (λ v. moved_from 0 n v old) (many 0 n (delta x y z) s p₀) (moved_each old n []))

  module _ (more : i < n) (r : Result (Delta × Cursor) BitsError) (is : NarrowIs s p 6 r) {b : _} (d : r ≡ result_from_control_flow b) where
    pub deltas_cut : {u : _} (y : Result (Deltas n × Cursor) Refusal) → b ≡ Break u → IsErrAnd y (λ w. w ≡ PastEnd) → DeltasAre s p₀ n old y
    deltas_cut o t e x y z =
        let short : Err PastEnd ≡ over on (delta x y z i s p) = rw alone at (delta_stop (item x i) (item y i) (item z i) 6 s p on (λ a q. read a q) r is (Err PastEnd) d t refl) in
        fill_stop (h.coded x y z) (deltas_of n old) o more short e

    pub deltas_turn : (v : Delta) (c : Cursor) → b ≡ Continue (v, c) → (w : ℤ) → w ≡ delta_moved v (to_z w8 (of_z w8 (get_or old i (pos 0)))) → SFits w8 (get_or old i (pos 0)) → SFits w8 w → DeltasFilling n old s p₀ (i + 1) c.at (set l i v.coded) (set m i (to_z w8 (of_z w8 w)))
    unfolding delta_of delta_moved delta_value
    deltas_turn v c t w ew kept fits = record { coded = λ x y z. fill_turn (h.coded x y z) more (seen (λ a. a.coded) delta_of (delta x y z i s p) (told x y z)); values = values }
      where
        told : (x y z : String) → Ok (v, c) ≡ over delta_of (delta x y z i s p)
        told x y z = rw alone at (delta_step (item x i) (item y i) (item z i) 6 s p delta_of (λ a q. read a q) r is (v, c) (Ok (v, c)) d t (λ a ea. rw ea refl))

        values : (x y z : String) → Filled (moved old) n (delta x y z) s p₀ (i + 1) c.at (set m i (to_z w8 (of_z w8 w)))
        values x y z =
            let few : length (take i m) ≡ i = length-take-le i m (omega (arith, (h.values x y z).size)) in
            rw (to_z-of_z fits, ew, to_z-of_z kept)
            (fill_turn (h.values x y z) more
            (seen (λ a. pick a.coded a.value (get_or old i (pos 0))) delta_of (delta x y z i s p) (told x y z)
            ∙ over_same (λ a. pick (flag a.coded) (delta_value a) (get_or old i (pos 0))) (moved old (take i m)) (delta x y z i s p) (λ a. rw few)))
