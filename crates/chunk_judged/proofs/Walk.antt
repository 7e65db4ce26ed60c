-- Reading headers one after the other, as the loop does it.
-- Assumes nothing.
use Prim.Native.Nat.{ℕ, suc, ◌+◌, ◌-◌, ◌<◌, ◌≤◌}
use mathlib.Core.Path.{◌≡◌, refl, sym, ap, ◌∙◌}
use mathlib.Core.List.{List}
use native.Mathlib.Nat.{sub-zero}
use native.Mathlib.Numerals.{add-one}
use native.Mathlib.Omega.{arith}
use lib.ListN.{length, get_or, set, replicate, take, drop}
use Rattle.base_bits.specs.declared.Refusal.{Refusal}
use Rattle.base_types.specs.Header.{default_header}
use Rattle.base_types.specs.declared.header.Header.{Header}
use Rattle.base_types.specs.declared.state.ReaderState.{ReaderState}
use Rattle.header_verdict.specs.Verdict.{Verdict, Accepted, Refused}
use Rattle.header_answer.specs.Answer.{HeaderRead}
use Rattle.chunk_index.specs.declared.Answer.{Answer as SplitAnswer}
use Rattle.chunk_index.specs.declared.Answer.TheVariants.{Frames}
use Rattle.chunk_index.specs.declared.Split.{Split}
use Rattle.chunk_index.specs.Split.{filled, split_of}
use Rattle.chunk_index.proofs.Tiles.{count_range, frame_inside}
use Rattle.chunk_answer.specs.declared.Answer.TheVariants as answer
use Rattle.chunk_judged.specs.Frames.{Judge, state_before, frame_read, none, fault, first_fault}
use Rattle.chunk_answer.specs.Answer.{refused_chunk}
use Rattle.chunk_judged.specs.Answer.{accepted_chunk, answered, chunk_by, judged_chunk}

module _ (judge : Judge) where
  abbrev pub verdict_at : List ℕ → ReaderState → ℕ → Verdict
  verdict_at s st i = (frame_read judge s (split_of s) st i).verdict

  -- of the n frames of a chunk i are accepted; the search for a refusal, from here on, gives what the whole search
  -- gives
  pub record Walked (s : List ℕ) (st : ReaderState) (n : ℕ) (at size : List ℕ) (i : ℕ) (headers : List Header) (state : ReaderState) : Type 0 where
    pub split : (split_of s).answer ≡ Frames n
    pub few : n ≤ 8
    pub starts : at ≡ (split_of s).at
    pub sizes : size ≡ (split_of s).size
    pub within : i ≤ n
    pub here : state ≡ state_before judge s (split_of s) st i
    pub held : headers ≡ filled default_header (λ j. (frame_read judge s (split_of s) st j).header) i
    pub same : first_fault (verdict_at s st) i (n - i) ≡ first_fault (verdict_at s st) 0 n

  -- the answer by that of the split
  pub by_split : (s : List ℕ) (st : ReaderState) {p : Split} (a : SplitAnswer) → p ≡ split_of s → p.answer ≡ a → chunk_by judge s (split_of s) st a ≡ judged_chunk judge s st
  unfolding judged_chunk
  by_split s st {p = p} a e f = ap (chunk_by judge s (split_of s) st) (sym f ∙ ap (λ (q : Split). q.answer) e)

  pub walked_none : {s : List ℕ} {st : ReaderState} {n : ℕ} (p : Split) → p ≡ split_of s → p.answer ≡ Frames n → Walked s st n p.at p.size 0 (replicate 8 default_header) st
  unfolding state_before filled
  walked_none {s = s} {n = n} p e a = record {
    split = rw e at a;
    few = (count_range s p e n a).1;
    starts = rw e;
    sizes = rw e;
    within = omega arith;
    here = refl;
    held = refl;
    same = rw sub-zero;
  }

  module _ {s : List ℕ} {st : ReaderState} {n : ℕ} {at size : List ℕ} {i : ℕ} {headers : List Header} {state : ReaderState} (w : Walked s st n at size i headers state) where
    -- a next frame
    module _ (h : i < n) where
      pub inside : get_or at i 0 + get_or size i 0 ≤ length s
      inside = rw (w.starts, w.sizes) (frame_inside s (split_of s) refl n w.split i h)

      left : n - i ≡ suc (n - (i + 1))
      left = omega arith

      -- its header's answer
      module _ (r : HeaderRead) (e : r ≡ judge (take (get_or at i 0 + get_or size i 0 - get_or at i 0) (drop (get_or at i 0) s)) state) where
        is_read : r ≡ frame_read judge s (split_of s) st i
        unfolding frame_read
        is_read = let k : get_or at i 0 + get_or size i 0 - get_or at i 0 ≡ get_or size i 0 = omega arith in rw (e, k, w.starts, w.sizes, w.here)

        pub walked_more : r.verdict ≡ Accepted → Walked s st n at size (i + 1) (set headers i r.header) r.state
        unfolding state_before frame_read filled first_fault
        walked_more v =
            let ok : verdict_at s st i ≡ Accepted = rw is_read at v in
            record {
              split = w.split;
              few = w.few;
              starts = w.starts;
              sizes = w.sizes;
              within = omega arith;
              here = rw (add-one, is_read);
              held = rw (add-one, w.held, is_read);
              same = (rw (left, ok) at w.same);
            }

        pub walked_fault : (x : Refusal) → r.verdict ≡ Refused x → refused_chunk (answer.Header i x) st ≡ judged_chunk judge s st
        unfolding first_fault
        walked_fault x v =
            let bad : verdict_at s st i ≡ Refused x = rw is_read at v in
            let f : fault i x ≡ first_fault (verdict_at s st) 0 n = (rw (left, bad) at w.same) in
            ap (answered _ st) f ∙ by_split s st (Frames n) refl w.split

    pub walked_all : n ≤ i → record { answer = answer.Frames n; at = at; size = size; headers = headers; state = state } ≡ judged_chunk judge s st
    unfolding first_fault
    walked_all f =
        let e : i ≡ n = omega (arith, w.within) in
        let z : n - i ≡ 0 = omega arith in
        let p : none ≡ first_fault (verdict_at s st) 0 n = (rw z at w.same) in
        rw (w.starts, w.sizes, w.held, w.here, e) (ap (answered (accepted_chunk judge s (split_of s) st n) st) p ∙ by_split s st (Frames n) refl w.split)
