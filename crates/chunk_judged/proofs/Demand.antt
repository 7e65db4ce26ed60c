-- The answer to a chunk, by a judge whose answers to a frame are what is demanded of them, is what is demanded of it,
-- and no other is.
-- Assumes nothing.
use Prim.Native.Nat.{ℕ, zero, suc, ◌+◌, ◌<◌, ◌≤◌}
use mathlib.Core.Path.{◌≡◌, refl, sym, ap, ◌∙◌}
use mathlib.Core.List.{List}
use native.Mathlib.Numerals.{add-one}
use native.Mathlib.Omega.{arith}
use Rattle.base_bits.specs.declared.Refusal.{Refusal}
use Rattle.base_bits.specs.declared.Refusal.TheVariants.{FrameMarker, SyncCode, PastEnd}
use Rattle.base_types.specs.Header.{default_header}
use Rattle.base_types.specs.declared.header.Header.{Header}
use Rattle.base_types.specs.declared.state.ReaderState.{ReaderState}
use Rattle.header_verdict.specs.Verdict.{Verdict, Refused}
use Rattle.header_answer.specs.Answer.{HeaderRead, accepted, refused_with}
use Rattle.header_answer.proofs.Accepted.{accepted_is}
use Rattle.chunk_index.specs.declared.Answer.{Answer as SplitAnswer}
use Rattle.chunk_index.specs.declared.Answer.TheVariants as split
use Rattle.chunk_index.specs.Layout.{layout_of, start}
use Rattle.chunk_index.specs.Split.{split_of}
use Rattle.chunk_index.specs.Table.{AllFit}
use Rattle.chunk_index.proofs.Table.{SplitWhen, exactly}
use Rattle.chunk_index.proofs.Tiles.{frames_range, filled_at, filled_same}
use Rattle.chunk_index.proofs.Demand as index
use Rattle.chunk_answer.specs.declared.Answer.{Answer}
use Rattle.chunk_answer.specs.declared.Answer.TheVariants as answer
use Rattle.chunk_answer.specs.declared.ChunkRead.{ChunkRead}
use Rattle.chunk_answer.specs.Answer.{chunk_number, chunk_frame, refused_chunk}
use Rattle.chunk_answer.proofs.Numbers.{one_refusal}
use Rattle.chunk_judged.specs.Frames.{Judge, frame_bytes, state_before, frame_read, FaultFound, none, fault, first_fault}
use Rattle.chunk_judged.specs.Answer.{accepted_chunk, answered, chunk_by, judged_chunk}
use Rattle.chunk_judged.specs.Demand.{ChunkRefused, frames_read, frame_at, FrameDemand, InTurn, HeaderRefused, JudgedDemanded}
use Rattle.chunk_judged.proofs.Walk.{verdict_at, by_split}
use Rattle.chunk_judged.proofs.Fault.{Good, Found, found, one_found}

-- what is shown of a judge: its answers are demanded, no others are, and a refusal changes nothing
pub record Meets (judge : Judge) (Demand : FrameDemand) : Type 0 where
  pub demanded : (s : List ℕ) (st : ReaderState) → Demand s st (judge s st)
  pub no_other : (s : List ℕ) (st : ReaderState) (r : HeaderRead) → Demand s st r → r ≡ judge s st
  pub refused_whole : (s : List ℕ) (st : ReaderState) (e : Refusal) → (judge s st).verdict ≡ Refused e → judge s st ≡ refused_with st e

-- two refusals with one number and one frame number are one
same_refusal : {n i : ℕ} {st : ReaderState} {r q : ChunkRead} → (n ≡ 0 → ⊥) → ChunkRefused n i st r → ChunkRefused n i st q → r ≡ q
same_refusal {r = r} {q = q} z h k =
    let a : r.answer ≡ q.answer = one_refusal r.answer q.answer (rw h.number z) (h.number ∙ sym k.number) (h.frame ∙ sym k.frame) in
    h.nothing ∙ rw a (sym k.nothing)

module _ (judge : Judge) (Demand : FrameDemand) (t : Meets judge Demand) (s : List ℕ) (st : ReaderState) where
  abbrev count : ℕ
  count = (layout_of s).frames

  abbrev before : ℕ → ReaderState
  before = state_before judge s (split_of s) st

  abbrev reads : ℕ → HeaderRead
  reads = frame_read judge s (split_of s) st

  abbrev verdicts : ℕ → Verdict
  verdicts = verdict_at judge s st

  state_next : (i : ℕ) → (reads i).state ≡ before (i + 1)
  unfolding state_before frame_read
  state_next i = rw add-one

  module _ (f : AllFit s) where
    was_split : (split_of s).answer ≡ split.Frames count
    was_split = (exactly s (split.Frames count)).1 (f, refl)

    -- what a search for the first refusal finds is answered
    framed : (x : FaultFound) → Found verdicts 0 count x → judged_chunk judge s st ≡ answered (accepted_chunk judge s (split_of s) st count) st x
    framed x g =
        let one = one_found verdicts 0 count x (first_fault verdicts 0 count) g (found verdicts 0 count) in
        sym (ap (answered (accepted_chunk judge s (split_of s) st count) st) one ∙ by_split judge s st (split.Frames count) refl was_split)

    -- a frame by the split and by the layout
    bytes_are : (i : ℕ) → i < count → frame_bytes s (split_of s) i ≡ frame_at s i
    bytes_are i h = rw ((index.demanded s).frames f, filled_at {A = ℕ} 0 (start (layout_of s).size) count i (frames_range s).1 h, filled_at {A = ℕ} 0 (layout_of s).size count i (frames_range s).1 h)

    read_is : (i : ℕ) → i < count → reads i ≡ judge (frame_at s i) (before i)
    unfolding frame_read
    read_is i h = rw (bytes_are i h)

    -- frames that are accepted in turn are so by the judge
    module _ (n : ℕ) (l : n ≤ count) (headers : ℕ → Header) (states : ℕ → ReaderState) (c : InTurn Demand s st n headers states) where
      judged_is : (i : ℕ) → i < n → before i ≡ states i → reads i ≡ accepted (headers i) (states (i + 1))
      judged_is i h e = read_is i (omega arith) ∙ rw e (sym (t.no_other (frame_at s i) (states i) (accepted (headers i) (states (i + 1))) (c.each i h)))

      states_are : (i : ℕ) → i ≤ n → before i ≡ states i
      unfolding state_before frame_read
      states_are zero h = sym c.from
      states_are (suc i) h = ap (λ (r : HeaderRead). r.state) (judged_is i (omega arith) (states_are i (omega arith))) ∙ rw add-one

      in_turn_lem : (i : ℕ) → i < n → reads i ≡ accepted (headers i) (states (i + 1))
      in_turn_lem i h = judged_is i h (states_are i (omega arith))

      all_good : Good verdicts 0 n
      all_good i z h = ap (λ (r : HeaderRead). r.verdict) (in_turn_lem i h)

    -- and those that the judge accepts are accepted in turn
    turn_is : (n : ℕ) → n ≤ count → Good verdicts 0 n → InTurn Demand s st n (λ i. (reads i).header) before
    unfolding state_before
    turn_is n l g = record {
      from = refl;
      each = λ i h.
          let e : judge (frame_at s i) (before i) ≡ accepted (reads i).header (before (i + 1)) = sym (read_is i (omega arith)) ∙ accepted_is (reads i) (g i (omega arith) h) ∙ rw (state_next i) in
          rw e at (t.demanded (frame_at s i) (before i));
    }

    first_refused : (i : ℕ) (e : Refusal) → i < count → Good verdicts 0 i → (reads i).verdict ≡ Refused e → HeaderRefused Demand s st i e
    first_refused i e l g v = record {
      fit = f;
      among = l;
      headers = λ j. (reads j).header;
      states = before;
      earlier = turn_is i (omega arith) g;
      refused = rw (t.refused_whole (frame_at s i) (before i) e (rw (read_is i l) at v)) at (t.demanded (frame_at s i) (before i));
    }

  header_row : (i : ℕ) (e : Refusal) → HeaderRefused Demand s st i e → judged_chunk judge s st ≡ refused_chunk (answer.Header i e) st
  header_row i e h =
      let l = h.among in
      let good = all_good h.fit i (omega arith) h.headers h.states h.earlier in
      let state = states_are h.fit i (omega arith) h.headers h.states h.earlier i (omega arith) in
      let read : reads i ≡ refused_with (h.states i) e = read_is h.fit i l ∙ rw state (sym (t.no_other (frame_at s i) (h.states i) (refused_with (h.states i) e) h.refused)) in
      framed h.fit (fault i e) (omega arith, omega arith, good, ap (λ (r : HeaderRead). r.verdict) read)

  frames_row : (headers : ℕ → Header) (states : ℕ → ReaderState) → AllFit s → InTurn Demand s st count headers states → judged_chunk judge s st ≡ frames_read (layout_of s) headers (states count)
  frames_row headers states f c =
      let turn = in_turn_lem f count (omega arith) headers states c in
      let heads = filled_same default_header (λ i. (reads i).header) headers count (λ i h. ap (λ (r : HeaderRead). r.header) (turn i h)) in
      let last = states_are f count (omega arith) headers states c count (omega arith) in
      framed f none (λ i z h. ap (λ (r : HeaderRead). r.verdict) (turn i (omega arith))) ∙ rw (heads, last, (index.demanded s).frames f)

  refused_is : (a : Answer) → judged_chunk judge s st ≡ refused_chunk a st → ChunkRefused (chunk_number a) (chunk_frame a) st (judged_chunk judge s st)
  refused_is a e = rw e (record { number = refl; frame = refl; nothing = refl })

  split_row : (a : SplitAnswer) → SplitWhen a s → judged_chunk judge s st ≡ chunk_by judge s (split_of s) st a
  split_row a h = sym (by_split judge s st a refl ((exactly s a).1 h))

  pub demanded : JudgedDemanded Demand s st (judged_chunk judge s st)
  demanded = record {
    row_1 = λ h. refused_is answer.Empty (split_row split.Empty h);
    row_2 = λ h. refused_is answer.Short (split_row split.Short h);
    row_3 = λ i n k h. refused_is (answer.Past i) (split_row (split.Past i) (n, k, h));
    row_4 = λ i h. refused_is (answer.Header i FrameMarker) (header_row i FrameMarker h);
    row_5 = λ i h. refused_is (answer.Header i SyncCode) (header_row i SyncCode h);
    row_6 = λ i h. refused_is (answer.Header i PastEnd) (header_row i PastEnd h);
    frames = frames_row;
  }

  pub no_other : (r : ChunkRead) → JudgedDemanded Demand s st r → r ≡ judged_chunk judge s st
  no_other r h = go (split_of s).answer refl
    where
      faulty : (i : ℕ) (e : Refusal) → HeaderRefused Demand s st i e → r ≡ judged_chunk judge s st
      faulty i FrameMarker g = same_refusal (λ z. omega arith) (h.row_4 i g) (demanded.row_4 i g)
      faulty i SyncCode g = same_refusal (λ z. omega arith) (h.row_5 i g) (demanded.row_5 i g)
      faulty i PastEnd g = same_refusal (λ z. omega arith) (h.row_6 i g) (demanded.row_6 i g)

      searched : AllFit s → (f : FaultFound) → Found verdicts 0 count f → r ≡ judged_chunk judge s st
      searched a none g = let c = turn_is a count (omega arith) (λ i z l. g i z (omega arith)) in h.frames _ _ a c ∙ sym (demanded.frames _ _ a c)
      searched a (fault i e) g = faulty i e (first_refused a i e (omega (arith, g.1)) g.2 g.3)

      go : (a : SplitAnswer) → (split_of s).answer ≡ a → r ≡ judged_chunk judge s st
      go split.Empty e = let g = (exactly s split.Empty).0 e in same_refusal (λ z. omega arith) (h.row_1 g) (demanded.row_1 g)
      go split.Short e = let g = (exactly s split.Short).0 e in same_refusal (λ z. omega arith) (h.row_2 g) (demanded.row_2 g)
      go (split.Past i) e = let g = (exactly s (split.Past i)).0 e in same_refusal (λ z. omega arith) (h.row_3 i g.0 g.1 g.2) (demanded.row_3 i g.0 g.1 g.2)
      go (split.Frames n) e = searched ((exactly s (split.Frames n)).0 e).0 (first_fault verdicts 0 count) (found verdicts 0 count)
