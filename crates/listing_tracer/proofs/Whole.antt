-- However a file arrives, the items yielded are its long form.
-- Assumes nothing.
use Prim.Native.Nat.{ℕ, zero, suc, ◌+◌, ◌-◌, ◌*◌, ◌^◌, ◌<◌, ◌≤◌}
use mathlib.Core.Path.{◌≡◌, refl, sym, ap, ◌∙◌}
use mathlib.Core.Logic.{◌⊎◌, inl, inr, ⊎_elim}
use mathlib.Core.Bool.{Bool, true, false}
use mathlib.Core.List.{List, [], ◌∷◌, ◌++◌, append_assoc, append-nil}
use native.Mathlib.Nat.{add-zero}
use native.Mathlib.Omega.{arith}
use lib.Dec.{ltb}
use lib.ListN.{length, take, drop, length-append, length-drop, take-append-drop}
use lib.Seq.{drop-drop, length-take-le, take-append_seam, drop-append_seam, take-nil}
use borrow.Author.Tests.{ltb-true, ltb-false}
use Rattle.base_shared.specs.Choice.{pick, pick_t}
use Rattle.base_types.specs.declared.state.ReaderState.{ReaderState}
use Rattle.header_parser.specs.Answer.{parsed}
use Rattle.chunk_index.specs.declared.Answer.{Answer as SplitAnswer}
use Rattle.chunk_index.specs.declared.Answer.TheVariants as split
use Rattle.chunk_index.specs.Split.{split_of}
use Rattle.chunk_answer.specs.declared.Answer.{Answer}
use Rattle.chunk_answer.specs.declared.Answer.TheVariants as answer
use Rattle.chunk_answer.specs.declared.ChunkRead.{ChunkRead}
use Rattle.chunk_judged.specs.Frames.{FaultFound, none, fault, first_fault, frame_read}
use Rattle.chunk_judged.specs.Answer.{accepted_chunk, answered, chunk_by, judged_chunk}
use Rattle.chunk_parser.specs.Answer.{chunk_of}
use Rattle.ivf_walk.specs.declared.Stage.{Stage}
use Rattle.ivf_walk.specs.declared.Stage.TheVariants.{Start, Records, Skip, Over}
use Rattle.ivf_walk.specs.declared.Event.{Event}
use Rattle.ivf_walk.specs.declared.Event.TheVariants.{More, Pass, NoFile, Opened, Data, TooLong, Cut, End}
use Rattle.ivf_walk.specs.declared.Event.TheVariants as event
use Rattle.ivf_walk.specs.declared.Turn.{Turn}
use Rattle.ivf_walk.specs.Turn.{turn_of}
use Rattle.ivf_walk.specs.Said.{Said}
use Rattle.ivf_walk.specs.Rest.{rest_said, event_said, FromStart}
use Rattle.ivf_walk.proofs.Rest.{turn_says}
use Rattle.ivf_walk.proofs.Progress.{turns_left, goes_on, counted, passing, Moves, turn_moves}
use Rattle.listing_file.specs.Chunk.{refusals}
use Rattle.listing_items.specs.Items.{Item, frame_items, records_past, answer_items, records_after, items_of, long_form}
use Rattle.listing_lister.specs.Lister.{one_more, FewFrames}
use Rattle.listing_lister.specs.Arrival.{joined}
use Rattle.listing_lister.proofs.Few.{few_frames}
use Rattle.listing_tracer.specs.declared.Tracer.{Tracer}
use Rattle.listing_tracer.specs.declared.Yields.{Yields}
use Rattle.listing_tracer.specs.declared.Yields.TheVariants as yields
use Rattle.listing_tracer.specs.declared.Traced.{Traced}
use Rattle.listing_tracer.specs.Tracer.{fresh_tracer}
use Rattle.listing_tracer.specs.Traced.{turned_to, refused_traced, chunk_traced, frame_traced, turn_traced, traced_of, items_in}
use Rattle.listing_tracer.specs.Arrival.{Outcome, goes_again, one_call, following, many_calls, handed_in, arrives_traced, yielded}
use Rattle.listing_tracer.proofs.Steps.{frame_first, then_turn}

true_false : true ≡ false → ⊥
true_false e = let z : ◌≡◌ {A = ℕ} 0 1 = ap (λ b. pick b 0 1) e in omega arith

-- a count that can grow
grows : (n : ℕ) → n + 1 < 2 ^ 64 → one_more n ≡ n + 1
unfolding one_more
grows n h = omega arith

-- a refused chunk leaves the state as it was
abbrev KeepsBy : ReaderState → ChunkRead → Answer → Type 0
KeepsBy st r (answer.Frames n) = Unit
KeepsBy st r answer.Empty = r.state ≡ st
KeepsBy st r answer.Short = r.state ≡ st
KeepsBy st r (answer.Past i) = r.state ≡ st
KeepsBy st r (answer.Header i e) = r.state ≡ st

module _ (s : List ℕ) (st : ReaderState) where
  keeps : KeepsBy st (chunk_of s st) (chunk_of s st).answer
  unfolding judged_chunk
  keeps = go (split_of s).answer
    where
      found : (n : ℕ) (f : FaultFound) → KeepsBy st (answered (accepted_chunk parsed s (split_of s) st n) st f) (answered (accepted_chunk parsed s (split_of s) st n) st f).answer
      found n none = tt
      found n (fault i e) = refl

      go : (a : SplitAnswer) → KeepsBy st (chunk_by parsed s (split_of s) st a) (chunk_by parsed s (split_of s) st a).answer
      go split.Empty = refl
      go split.Short = refl
      go (split.Past i) = refl
      go (split.Frames n) = found n (first_fault (λ i. (frame_read parsed s (split_of s) st i).verdict) 0 n)

-- what is still to be yielded: the frames of the chunk that was read, and the items of what is said from now on
abbrev items_left : Tracer → List Said → List Item
items_left t said =
    frame_items t.chunk t.read t.frame (t.count - t.frame) t.records
    ++ items_of t.chunks t.refused t.state (records_past t.read t.frame (t.count - t.frame) t.records) said

-- a frame is the first of it
frame_yields : (t : Tracer) (said : List Said) → t.frame < t.count → items_left t said ≡ items_in (frame_traced t) ++ items_left (frame_traced t).tracer said
unfolding frame_items records_past
frame_yields t said h = let z : t.count - t.frame ≡ suc (t.count - (t.frame + 1)) = omega arith in rw z

module _ (t : Tracer) (none_left : t.count ≤ t.frame) (h : t.chunks + 1 < 2 ^ 64) (k : t.refused + 1 < 2 ^ 64) (u : Turn) (others : List Said) where
  zero_left : t.count - t.frame ≡ 0
  zero_left = omega arith

  abbrev Yielding : List Item → Traced → Type 0
  Yielding all r = all ≡ items_in r ++ items_left r.tracer others

  refused_yields : (number i : ℕ) → Yielding (items_in (refused_traced t u number i) ++ items_of (t.chunks + 1) (t.refused + 1) t.state t.records others) (refused_traced t u number i)
  unfolding frame_items records_past
  refused_yields number i = rw (zero_left, grows t.chunks h, grows t.refused k)

  answer_yields : (r : ChunkRead) (a : Answer) → KeepsBy t.state r a
      → Yielding (answer_items t.chunks r t.records a ++ items_of (t.chunks + 1) (t.refused + refusals a) r.state (records_after r t.records a) others) (chunk_traced t u r a)
  answer_yields r (answer.Frames n) e =
      let z : n - 0 ≡ n = omega arith in
      let y : t.refused + 0 ≡ t.refused = omega arith in
      rw (grows t.chunks h, z, y)
  answer_yields r answer.Empty e = rw e (refused_yields 1 0)
  answer_yields r answer.Short e = rw e (refused_yields 2 0)
  answer_yields r (answer.Past i) e = rw e (refused_yields 3 i)
  answer_yields r (answer.Header i e') e = rw e (refused_yields _ i)

  -- an event's items, and then the others'
  event_yields : (s : List ℕ) (e : Event) → Yielding (items_left t (event_said s e ++ others)) (turn_traced t s u e)
  unfolding frame_items records_past items_of
  event_yields s More = refl
  event_yields s Pass = refl
  event_yields s NoFile = rw zero_left
  event_yields s Opened = rw zero_left
  event_yields s (Data n) = let r = chunk_of (take n (drop 12 s)) t.state in rw zero_left (answer_yields r r.answer (keeps (take n (drop 12 s)) t.state))
  event_yields s TooLong = rw (zero_left, grows t.chunks h, grows t.refused k)
  event_yields s Cut = rw zero_left
  event_yields s End = rw zero_left
  event_yields s event.Over = refl

-- what becomes of a tracer by a turn
record Follows (t : Tracer) (u : Turn) (e : Event) (r : Traced) : Type 0 where
  stage : r.tracer.stage ≡ u.stage
  used : r.used ≡ u.used
  again : goes_again r.yields ≡ goes_on e
  chunks : r.tracer.chunks ≡ t.chunks + counted e
  fewer : r.tracer.refused ≤ r.tracer.chunks
  eight : r.tracer.count ≤ 8
  rest : pick_t (goes_on e) Unit (r.tracer.count ≤ r.tracer.frame)

module _ (t : Tracer) (none_left : t.count ≤ t.frame) (h : t.chunks + 1 < 2 ^ 64) (k : t.refused ≤ t.chunks) (few : t.count ≤ 8) (u : Turn) where
  quietly : (e : Event) (y : Yields) → goes_again y ≡ goes_on e → counted e ≡ 0 → pick_t (goes_on e) Unit (t.count ≤ t.frame) → Follows t u e (turned_to t u y)
  quietly e y g z l = record { stage = refl; used = refl; again = g; chunks = omega (arith, z); fewer = k; eight = few; rest = l }

  refusing : (e : Event) (number i : ℕ) → goes_on e ≡ true → counted e ≡ 1 → Follows t u e (refused_traced t u number i)
  refusing e number i g z =
      record {
        stage = refl;
        used = refl;
        again = sym g;
        chunks = omega (arith, z, grows t.chunks h);
        fewer = omega (arith, grows t.chunks h, grows t.refused (omega arith));
        eight = few;
        rest = rw g tt;
      }

  answer_follows : (n : ℕ) (r : ChunkRead) (a : Answer) → FewFrames a → Follows t u (Data n) (chunk_traced t u r a)
  answer_follows n r (answer.Frames m) f =
      record { stage = refl; used = refl; again = refl; chunks = grows t.chunks h; fewer = omega (arith, grows t.chunks h); eight = f; rest = tt }
  answer_follows n r answer.Empty f = refusing (Data n) 1 0 refl refl
  answer_follows n r answer.Short f = refusing (Data n) 2 0 refl refl
  answer_follows n r (answer.Past i) f = refusing (Data n) 3 i refl refl
  answer_follows n r (answer.Header i e) f = refusing (Data n) _ i refl refl

  event_follows : (s : List ℕ) (e : Event) → Follows t u e (turn_traced t s u e)
  event_follows s More = quietly More yields.More refl refl none_left
  event_follows s Pass = quietly Pass yields.Again refl refl tt
  event_follows s NoFile = quietly NoFile yields.NoFile refl refl none_left
  event_follows s Opened = quietly Opened yields.Columns refl refl tt
  event_follows s (Data n) = answer_follows n (chunk_of (take n (drop 12 s)) t.state) (chunk_of (take n (drop 12 s)) t.state).answer (few_frames (take n (drop 12 s)) t.state)
  event_follows s TooLong = refusing TooLong 9 0 refl refl
  event_follows s Cut = quietly Cut (yields.Cut t.chunks t.refused) refl refl none_left
  event_follows s End = quietly End (yields.Last t.chunks t.refused) refl refl none_left
  event_follows s event.Over = quietly event.Over yields.Over refl refl none_left

-- what is at hand behind the bytes that are used
drop_take : {A : Type 0} (k m : ℕ) (l : List A) → k ≤ m → drop k (take m l) ≡ take (m - k) (drop k l)
drop_take zero m l h = let z : m - 0 ≡ m = omega arith in rw z
drop_take (suc k) zero l h = absurd (omega arith)
drop_take (suc k) (suc m) [] h = sym (take-nil (suc m - suc k))
drop_take (suc k) (suc m) (x ∷ l) h = let z : suc m - suc k ≡ m - k = omega arith in rw z (drop_take k m l (omega arith))

-- how many calls are left at most with m bytes at hand
abbrev calls_left : Tracer → ℕ → ℕ
calls_left t m = 9 * (turns_left t.stage + m) + (t.count - t.frame)

module _ (f : List ℕ) (small : length f < 2 ^ 64) where
  abbrev items_left_at : Tracer → ℕ → List Item
  items_left_at t p = items_left t (rest_said f t.stage p)

  record Standing (t : Tracer) (p : ℕ) : Type 0 where
    stands : FromStart t.stage p
    few : 2 * (t.chunks + passing t.stage) ≤ p
    fewer : t.refused ≤ t.chunks
    eight : t.count ≤ 8

  -- a call or a row of them: it comes to a place, and has yielded what was to be yielded up to there
  record Comes (t : Tracer) (p m : ℕ) (c : Outcome) : Type 0 where
    used : ℕ
    within : used ≤ m
    kept : c.kept ≡ take (m - used) (drop (p + used) f)
    says : items_left_at t p ≡ c.items ++ items_left_at c.tracer (p + used)
    standing : Standing c.tracer (p + used)

  -- it stops where all is yielded, or asks for more with little left
  abbrev Stops : Bool → ℕ → Outcome → Type 0
  Stops ended left c = ((c.tracer.stage ≡ Over) × (c.tracer.count ≤ c.tracer.frame)) ⊎ ((ended ≡ false) × (left < 65548))

  record Called (t : Tracer) (p m : ℕ) (ended : Bool) (c : Outcome) : Type 0 where
    comes : Comes t p m c
    goes : pick_t c.again (calls_left c.tracer (m - comes.used) < calls_left t m) (Stops ended (m - comes.used) c)

  abbrev call_of : Traced → List ℕ → Outcome
  call_of r s = record { items = items_in r; tracer = r.tracer; kept = drop r.used s; again = goes_again r.yields }

  module _ (t : Tracer) (p m : ℕ) (here : Standing t p) (inside : p + m ≤ length f) (ended : Bool) (all : ended ≡ true → p + m ≡ length f) where
    abbrev hand : List ℕ
    hand = take m (drop p f)

    size : length hand ≡ m
    size = length-take-le m (drop p f) (rw length-drop (omega arith))

    -- a frame
    frame_called : t.frame < t.count → Called t p m ended (call_of (frame_traced t) hand)
    frame_called h =
        let z : m - 0 ≡ m = omega arith in
        record {
          comes = record { used = 0; within = omega arith; kept = rw (add-zero p, z); says = rw (add-zero p) (frame_yields t (rest_said f t.stage p) h); standing = rw (add-zero p) (record { stands = here.stands; few = here.few; fewer = here.fewer; eight = here.eight }) };
          goes = omega arith;
        }

    -- a turn
    module _ (none_left : t.count ≤ t.frame) where
      abbrev turn : Turn
      turn = turn_of t.stage hand ended

      abbrev reply : Traced
      reply = turn_traced t hand turn turn.event

      moves : Moves t.stage ended m turn
      moves = rw size at (turn_moves t.stage ended hand)

      can_grow : t.chunks + 1 < 2 ^ 64
      can_grow = omega (arith, here.few)

      follows : Follows t turn turn.event reply
      follows = event_follows t none_left can_grow here.fewer here.eight turn hand turn.event

      turn_yields : items_left_at t p ≡ items_in reply ++ items_left_at reply.tracer (p + reply.used)
      turn_yields =
          ap (items_left t) (turn_says f p m inside t.stage here.stands ended all)
          ∙ event_yields t none_left can_grow (omega (arith, here.fewer, can_grow)) turn (rest_said f turn.stage (p + turn.used)) hand turn.event
          ∙ rw (follows.stage, follows.used)

      turn_stands : Standing reply.tracer (p + reply.used)
      turn_stands =
          record {
            stands = rw (follows.stage, follows.used) (moves.stands p here.stands);
            few = rw (follows.stage, follows.used, follows.chunks) (omega (arith, here.few, moves.pays));
            fewer = follows.fewer;
            eight = follows.eight;
          }

      left_there : drop reply.used hand ≡ take (m - reply.used) (drop (p + reply.used) f)
      left_there = rw follows.used (drop_take turn.used m (drop p f) moves.within ∙ rw (drop-drop turn.used p f))

      brings : (b : Bool) → pick_t b (turns_left turn.stage + (m - turn.used) < turns_left t.stage + m) ((turn.stage ≡ Over) ⊎ ((ended ≡ false) × (m - turn.used < 65548)))
          → pick_t b Unit (reply.tracer.count ≤ reply.tracer.frame)
          → pick_t b (calls_left reply.tracer (m - reply.used) < calls_left t m) (Stops ended (m - reply.used) (call_of reply hand))
      brings true less r = rw (follows.stage, follows.used) (omega (arith, less, follows.eight))
      brings false stops r = rw (follows.stage, follows.used) (⊎_elim (λ z. inl (z, r)) inr stops)

      turn_called : Called t p m ended (call_of reply hand)
      turn_called =
          record {
            comes = record { used = reply.used; within = rw follows.used moves.within; kept = left_there; says = turn_yields; standing = turn_stands };
            goes = rw follows.again (brings (goes_on turn.event) moves.brings follows.rest);
          }

    one_call_lem : Called t p m ended (one_call t hand ended)
    unfolding one_call
    one_call_lem = go (ltb t.frame t.count) refl
      where
        go : (b : Bool) → ltb t.frame t.count ≡ b → Called t p m ended (call_of (traced_of t hand ended) hand)
        go true e = let h = ltb-true t.frame t.count e in rw (← frame_first t hand ended h) (frame_called h)
        go false e = let h = ltb-false t.frame t.count e in rw (← then_turn t hand ended h) (turn_called h)

  module _ {t : Tracer} {p m : ℕ} {c d : Outcome} (a : Comes t p m c) (b : Comes c.tracer (p + a.used) (m - a.used) d) where
    then_comes : Comes t p m (following c.items d)
    then_comes =
        let o : p + a.used + b.used ≡ p + (a.used + b.used) = omega arith in
        let z : m - a.used - b.used ≡ m - (a.used + b.used) = omega arith in
        record {
          used = a.used + b.used;
          within = omega (arith, a.within, b.within);
          kept = rw (o, z) at b.kept;
          says = a.says ∙ ap (λ others. c.items ++ others) b.says ∙ rw o (sym (append_assoc c.items d.items (items_left_at d.tracer (p + (a.used + b.used)))));
          standing = rw o at b.standing;
        }

  record Fed (t : Tracer) (p m : ℕ) (ended : Bool) (c : Outcome) : Type 0 where
    comes : Comes t p m c
    stops : Stops ended (m - comes.used) c

  calls_say : (n : ℕ) (t : Tracer) (p m : ℕ) → Standing t p → p + m ≤ length f → (ended : Bool) → (ended ≡ true → p + m ≡ length f) → calls_left t m < n
      → Fed t p m ended (many_calls n t (take m (drop p f)) ended)
  unfolding many_calls then_comes
  calls_say zero t p m here inside ended all h = absurd (omega arith)
  calls_say (suc n) t p m here inside ended all h =
      let one = one_call_lem t p m here inside ended all in
      let c = one_call t (take m (drop p f)) ended in
      go one c.again refl (λ less. calls_say n c.tracer (p + one.comes.used) (m - one.comes.used) one.comes.standing (omega (arith, one.comes.within)) ended (λ z. omega (arith, one.comes.within, all z)) (omega (arith, less)))
    where
      go : {c : Outcome} (one : Called t p m ended c) (b : Bool) → c.again ≡ b
          → (calls_left c.tracer (m - one.comes.used) < calls_left t m → Fed c.tracer (p + one.comes.used) (m - one.comes.used) ended (many_calls n c.tracer (take (m - one.comes.used) (drop (p + one.comes.used) f)) ended))
          → Fed t p m ended (pick b (following c.items (many_calls n c.tracer c.kept ended)) c)
      go {c} one true e others =
          let later = others (rw e at one.goes) in
          let z : m - one.comes.used - later.comes.used ≡ m - (one.comes.used + later.comes.used) = omega arith in
          rw one.comes.kept (record { comes = then_comes one.comes later.comes; stops = rw z at later.stops })
      go {c} one false e others = record { comes = one.comes; stops = rw e at one.goes }

  few_calls : (t : Tracer) (p m : ℕ) → Standing t p → calls_left t m < 9 * (m + 3)
  few_calls t p m here = go t.stage
    where
      go : (stage : Stage) → 9 * (turns_left stage + m) + (t.count - t.frame) < 9 * (m + 3)
      go Start = omega (arith, here.eight)
      go Records = omega (arith, here.eight)
      go (Skip left) = omega (arith, here.eight)
      go Over = omega (arith, here.eight)

  -- all that is at hand is fed
  fed_says : (t : Tracer) (p : ℕ) (s others : List ℕ) → Standing t p → p ≤ length f → s ++ others ≡ drop p f → (ended : Bool) → (ended ≡ true → others ≡ []) → Fed t p (length s) ended (handed_in t s ended)
  fed_says t p s others here within e ended ending =
      let there : take (length s) (drop p f) ≡ s = rw (← e) (take-append_seam s others) in
      let sizes : length s + length others ≡ length f - p = sym (length-append s others) ∙ ap length e ∙ length-drop p f in
      rw there at (calls_say (9 * (length s + 3)) t p (length s) here (omega arith) ended (λ z. omega (arith, ap length (ending z))) (few_calls t p (length s) here))

  -- what is kept is what stands before the blocks that are still to come
  kept_there : (p m : ℕ) (others : List ℕ) (c : Outcome) (t : Tracer) (a : Comes t p m c) → drop (p + m) f ≡ others → c.kept ++ others ≡ drop (p + a.used) f
  kept_there p m others c t a e =
      let o : p + a.used + (m - a.used) ≡ p + m = omega (arith, a.within) in
      rw (a.kept, ← e, ← o, ← drop-drop (m - a.used) (p + a.used) f) (take-append-drop (m - a.used) (drop (p + a.used) f))

  over_silent : (t : Tracer) (p : ℕ) → (t.stage ≡ Over) × (t.count ≤ t.frame) → items_left_at t p ≡ []
  unfolding rest_said items_of frame_items
  over_silent t p e = let z : t.count - t.frame ≡ 0 = omega (arith, e.1) in rw (e.0, z)

  arrives_say : (blocks : List (List ℕ)) (t : Tracer) (p : ℕ) (kept : List ℕ) → Standing t p → p ≤ length f → kept ++ joined blocks ≡ drop p f → arrives_traced t kept blocks ≡ items_left_at t p
  unfolding arrives_traced joined
  arrives_say [] t p kept here within e =
      let c = fed_says t p kept [] here within e true (λ z. refl) in
      let over : ((handed_in t kept true).tracer.stage ≡ Over) × ((handed_in t kept true).tracer.count ≤ (handed_in t kept true).tracer.frame) = ⊎_elim (λ z. z) (λ z. absurd (true_false z.0)) c.stops in
      sym (c.comes.says ∙ rw (over_silent (handed_in t kept true).tracer (p + c.comes.used) over) (append-nil (handed_in t kept true).items))
  arrives_say (block ∷ others) t p kept here within e =
      let s = kept ++ block in
      let e' : s ++ joined others ≡ drop p f = append_assoc kept block (joined others) ∙ e in
      let c = fed_says t p s (joined others) here within e' false (λ z. absurd (true_false (sym z))) in
      let sizes : length s + length (joined others) ≡ length f - p = sym (length-append s (joined others)) ∙ ap length e' ∙ length-drop p f in
      let come : drop (p + length s) f ≡ joined others = sym (drop-drop (length s) p f) ∙ rw (← e') (drop-append_seam s (joined others)) in
      let later = arrives_say others (handed_in t s false).tracer (p + c.comes.used) (handed_in t s false).kept c.comes.standing (omega (arith, c.comes.within)) (kept_there p (length s) (joined others) (handed_in t s false) t c.comes come) in
      rw later (sym c.comes.says)

-- the theorem
pub however : (blocks : List (List ℕ)) → length (joined blocks) < 2 ^ 64 → yielded blocks ≡ long_form (joined blocks)
unfolding long_form rest_said frame_items records_past
however blocks small = arrives_say (joined blocks) small blocks fresh_tracer 0 [] (record { stands = refl; few = omega arith; fewer = omega arith; eight = omega arith }) (omega arith) refl
