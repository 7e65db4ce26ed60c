-- What a turn says, and what is then still to be said, is what was to be said.
-- Assumes nothing.
use Prim.Native.Nat.{ℕ, zero, suc, ◌+◌, ◌-◌, ◌<◌, ◌≤◌}
use mathlib.Core.Path.{◌≡◌, refl, sym, ap, ◌∙◌}
use mathlib.Core.Bool.{Bool, true, false}
use mathlib.Core.List.{List, [], ◌∷◌, ◌++◌}
use native.Mathlib.Nat.{add-zero}
use native.Mathlib.Omega.{arith}
use lib.Dec.{eqb, leb, ltb}
use lib.ListN.{length, take, drop, length-drop}
use lib.Seq.{take-take, take_all, length-take-le, drop-drop}
use borrow.Author.Tests.{eqb-true, eqb-false, ltb-true, ltb-false, leb-true, leb-false, lt-ltb, le-ltb}
use Rattle.base_shared.specs.Choice.{pick}
use Rattle.base_little.specs.Little.{little}
use Rattle.std.specs.Prelude.{Ok, Err}
use Rattle.ivf_file.specs.File.{is_ivf, file_of, file_header_of}
use Rattle.ivf_file.specs.Record.{data_length, data_end, record_at}
use Rattle.ivf_file.proofs.Cases.{at_end, cut, whole}
use Rattle.ivf_file.proofs.Part.{little_part, header_first}
use Rattle.ivf_file.proofs.Records.{records_step}
use Rattle.ivf_arriving.specs.declared.Next.{Next}
use Rattle.ivf_arriving.specs.declared.Next.TheVariants as next
use Rattle.ivf_arriving.specs.Next.{next_record}
use Rattle.ivf_arriving.proofs.Cases.{none_there, header_cut, too_long_lem, data_cut, data_there}
use Rattle.ivf_walk.specs.declared.Stage.{Stage}
use Rattle.ivf_walk.specs.declared.Stage.TheVariants.{Start, Records, Skip, Over}
use Rattle.ivf_walk.specs.declared.Turn.{Turn}
use Rattle.ivf_walk.specs.Said.{Said, opened, chunk, too_long, end, record_said, file_said}
use Rattle.ivf_walk.specs.Said as said
use Rattle.ivf_walk.specs.Turn.{file_turn, start_turn, turn_by, skip_turn, turn_of}
use Rattle.ivf_walk.proofs.Steps.{all_there, too_few, enough, all_passed, cut_inside, part_passed}
use Rattle.ivf_walk.specs.Rest.{said_from, rest_said, event_said, FromStart}

-- a part of a part
pub part : {A : Type 0} (k n m : ℕ) (l : List A) → k + n ≤ m → take n (drop k (take m l)) ≡ take n (drop k l)
part zero n m l h = take-take n m l (omega arith)
part (suc k) n zero l h = absurd (omega arith)
part (suc k) n (suc m) [] h = refl
part (suc k) n (suc m) (x ∷ l) h = part k n m l (omega arith)

-- what stands at a place, by cases
module _ (f : List ℕ) (p : ℕ) where
  ends : p ≡ length f → said_from f p ≡ end ∷ []
  unfolding said_from
  ends h = rw (records_step f (length f) p (omega arith) (omega arith), ← at_end f p h)

  module _ (h : p ≤ length f) (n : p ≡ length f → ⊥) where
    is_cut : length f < data_end f p → said_from f p ≡ said.cut ∷ []
    unfolding said_from
    is_cut k = rw (records_step f (length f) p h (omega arith), ← cut f p n k)

    is_whole : data_end f p ≤ length f → said_from f p ≡ record_said f (record_at f p) ∷ said_from f (data_end f p)
    unfolding said_from record_at
    is_whole k = rw (records_step f (length f) p h (omega arith), ← whole f p n k)

-- m bytes of a file are at hand from p on, which are all that is left of it where it has ended
module _ (f : List ℕ) (p m : ℕ) (inside : p + m ≤ length f) where
  abbrev hand : List ℕ
  hand = take m (drop p f)

  size : length hand ≡ m
  size = length-take-le m (drop p f) (rw length-drop (omega arith))

  -- a turn says the first of what is to be said
  abbrev pub Says : List Said → Turn → Type 0
  Says all t = all ≡ event_said hand t.event ++ rest_said f t.stage (p + t.used)

  -- records
  abbrev Next-says : Next → Type 0
  Next-says n = Says (said_from f p) (turn_by n)

  waits : Next-says next.More
  unfolding rest_said
  waits = rw (add-zero p)

  by_end : (ended : Bool) (n : Next) → (ended ≡ true → Next-says n) → Next-says (pick ended n next.More)
  by_end true n h = h refl
  by_end false n h = waits

  module _ (h : p + 12 ≤ length f) where
    long_says : 65536 < data_length f p → Next-says (next.Long (data_length f p))
    unfolding rest_said record_at
    long_says l = go (ltb (length f) (data_end f p)) refl
      where
        go : (b : Bool) → ltb (length f) (data_end f p) ≡ b → said_from f p ≡ pick b (said.cut ∷ []) (too_long ∷ said_from f (data_end f p))
        go true e = is_cut f p (omega arith) (λ z. omega arith) (ltb-true _ _ e)
        go false e = is_whole f p (omega arith) (λ z. omega arith) (ltb-false _ _ e) ∙ rw (lt-ltb 65536 (data_length f p) l)

    data_says : data_length f p ≤ 65536 → 12 + data_length f p ≤ m → Next-says (next.Data (data_length f p))
    unfolding rest_said record_at
    data_says l k =
        let o : p + (12 + data_length f p) ≡ data_end f p = omega arith in
        is_whole f p (omega arith) (λ z. omega arith) (omega arith) ∙ rw (le-ltb 65536 (data_length f p) l, o, part 12 (data_length f p) m (drop p f) k, drop-drop 12 p f)

  length_there : 12 ≤ m → data_length f p ≡ little hand 0 4
  length_there h = sym (rw add-zero at (little_part f p m 0 4 (omega arith)))

  module _ (ended : Bool) (all : ended ≡ true → p + m ≡ length f) where
    record_says : Next-says (next_record hand ended)
    unfolding rest_said
    record_says = go (eqb m 0) refl (ltb m 12) refl (ltb 65536 (data_length f p)) refl (ltb m (12 + data_length f p)) refl
      where
        go : (a : Bool) → eqb m 0 ≡ a → (b : Bool) → ltb m 12 ≡ b → (c : Bool) → ltb 65536 (data_length f p) ≡ c → (d : Bool) → ltb m (12 + data_length f p) ≡ d → Next-says (next_record hand ended)
        go true e b h c k d l =
            let z = eqb-true m 0 e in
            rw (← none_there hand ended (size ∙ z)) (by_end ended next.End (λ t. ends f p (omega (arith, all t))))
        go false e true h c k d l =
            let n = eqb-false m 0 e in
            let few = ltb-true m 12 h in
            rw (← header_cut hand ended (λ z. n (sym size ∙ z)) (omega (arith, size))) (by_end ended next.Cut (λ t. is_cut f p (omega arith) (λ z. n (omega (arith, all t))) (omega (arith, all t))))
        go false e false h true k d l =
            let there = ltb-false m 12 h in
            let long = ltb-true 65536 (data_length f p) k in
            rw (← too_long_lem hand ended (data_length f p) (length_there there) (omega (arith, size)) long) (long_says (omega arith) long)
        go false e false h false k true l =
            let there = ltb-false m 12 h in
            let fits = ltb-false 65536 (data_length f p) k in
            let few = ltb-true m (12 + data_length f p) l in
            rw (← data_cut hand ended (data_length f p) (length_there there) (omega (arith, size)) fits (omega (arith, size)))
            (by_end ended next.Cut (λ t. is_cut f p (omega arith) (λ z. omega (arith, all t)) (omega (arith, all t))))
        go false e false h false k false l =
            let there = ltb-false m 12 h in
            let fits = ltb-false 65536 (data_length f p) k in
            let enough = ltb-false m (12 + data_length f p) l in
            rw (← data_there hand ended (data_length f p) (length_there there) (omega (arith, size)) fits (omega (arith, size))) (data_says (omega arith) fits enough)

  -- the file's header
  module _ (z : p ≡ 0) where
    first_bytes : hand ≡ take m f
    first_bytes = rw z

    file_says : Says (file_said f) (file_turn (file_of f))
    unfolding rest_said file_said said_from file_of
    file_says = rw z (go (is_ivf f))
      where
        go : (b : Bool) → pick b (opened ∷ said_from f 32) (said.no_file ∷ []) ≡ event_said (take m f) (file_turn (pick b (Ok (file_header_of f)) (Err (record {})))).event ++ rest_said f (file_turn (pick b (Ok (file_header_of f)) (Err (record {})))).stage (0 + (file_turn (pick b (Ok (file_header_of f)) (Err (record {})))).used)
        go true = refl
        go false = refl

    header_there : 32 ≤ m → file_of hand ≡ file_of f
    header_there h = ap file_of first_bytes ∙ sym (header_first (take m f)) ∙ rw (take-take 32 m f h) (header_first f)

    file_there : p + m ≡ length f → file_of hand ≡ file_of f
    file_there h = ap file_of (first_bytes ∙ take_all m f (omega arith))

    start_says : (ended : Bool) → (ended ≡ true → p + m ≡ length f) → Says (file_said f) (start_turn hand ended)
    unfolding rest_said
    start_says true all = rw (← all_there hand, file_there (all refl)) file_says
    start_says false all = go (ltb m 32) refl
      where
        go : (b : Bool) → ltb m 32 ≡ b → Says (file_said f) (start_turn hand false)
        go true e = rw (← too_few hand (omega (arith, size, ltb-true m 32 e)))
        go false e = rw (← enough hand (omega (arith, size, ltb-false m 32 e)), header_there (ltb-false m 32 e)) file_says

  -- the data of a record over the limit
  skip_says : (left : ℕ) (ended : Bool) → (ended ≡ true → p + m ≡ length f) → Says (rest_said f (Skip left) p) (skip_turn left hand ended)
  unfolding rest_said
  skip_says left ended all = go (leb left m) refl ended all
    where
      go : (b : Bool) → leb left m ≡ b → (ended : Bool) → (ended ≡ true → p + m ≡ length f) → Says (rest_said f (Skip left) p) (skip_turn left hand ended)
      go true e ended all = let h = leb-true left m e in rw (← all_passed left hand ended (omega (arith, size)), le-ltb (length f) (p + left) (omega arith))
      go false e true all = let h = leb-false left m e in rw (← cut_inside left hand (omega (arith, size)), lt-ltb (length f) (p + left) (omega (arith, all refl)))
      go false e false all =
          let h = leb-false left m e in
          let o : p + m + (left - m) ≡ p + left = omega arith in
          rw (← part_passed left hand (omega (arith, size)), size, o)

  pub turn_says : (stage : Stage) → FromStart stage p → (ended : Bool) → (ended ≡ true → p + m ≡ length f) → Says (rest_said f stage p) (turn_of stage hand ended)
  unfolding rest_said
  turn_says Start z ended all = start_says z ended all
  turn_says Records z ended all = record_says ended all
  turn_says (Skip left) z ended all = skip_says left ended all
  turn_says Over z ended all = refl
