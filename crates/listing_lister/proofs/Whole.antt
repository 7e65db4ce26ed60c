-- However a file arrives, what is put out is its listing.
-- Assumes nothing.
use Prim.Native.Nat.{ℕ, zero, suc, ◌+◌, ◌-◌, ◌*◌, ◌^◌, ◌<◌, ◌≤◌}
use mathlib.Core.Path.{◌≡◌, refl, sym, ap, ◌∙◌}
use mathlib.Core.Logic.{◌⊎◌, inl, inr, ⊎_elim}
use mathlib.Core.Bool.{Bool, true, false}
use mathlib.Core.List.{List, [], ◌∷◌, ◌++◌, append_assoc, append-nil}
use native.Mathlib.Nat.{add-zero}
use native.Mathlib.Omega.{arith}
use lib.ListN.{length, take, drop, length-append, length-drop, take-append-drop}
use lib.Seq.{drop-drop, length-take-le, take_all, take-append_seam, drop-append_seam, take-nil}
use Rattle.base_shared.specs.Choice.{pick, pick_t}
use Rattle.chunk_answer.specs.declared.Answer.{Answer}
use Rattle.chunk_answer.specs.declared.Answer.TheVariants as answer
use Rattle.ivf_walk.specs.declared.Stage.{Stage}
use Rattle.ivf_walk.specs.declared.Stage.TheVariants.{Start, Records, Skip, Over}
use Rattle.ivf_walk.specs.declared.Event.{Event}
use Rattle.ivf_walk.specs.declared.Event.TheVariants.{More, Pass, NoFile, Opened, Data, TooLong, Cut, End}
use Rattle.ivf_walk.specs.declared.Event.TheVariants as event
use Rattle.ivf_walk.specs.declared.Turn.{Turn}
use Rattle.ivf_walk.specs.Said.{Said, file_said}
use Rattle.ivf_walk.specs.Rest.{rest_said, event_said, FromStart}
use Rattle.ivf_walk.proofs.Rest.{turn_says}
use Rattle.ivf_walk.proofs.Progress.{turns_left, goes_on, counted, passing, Moves, turn_moves}
use Rattle.text_line.specs.Line.{Word, text_of}
use Rattle.text_line.proofs.Lines.{text_append}
use Rattle.listing_file.specs.Chunk.{refusals}
use Rattle.listing_file.specs.Listing.{lines_of, listing}
use Rattle.listing_lister.specs.declared.Lister.{Lister}
use Rattle.listing_lister.specs.Lister.{fresh_lister, one_more, refused_after}
use Rattle.listing_lister.specs.Feed.{wants_of, read_of, lines_by, lister_by, turn_at}
use Rattle.listing_lister.specs.Arrival.{Calls, Little, called, behind, is_again, calls, fed, arrives, put_out, joined}

true_false : true ≡ false → ⊥
true_false e = let z : ◌≡◌ {A = ℕ} 0 1 = ap (λ b. pick b 0 1) e in omega arith

-- a count that can grow
grows : (n : ℕ) → n + 1 < 2 ^ 64 → one_more n ≡ n + 1
unfolding one_more
grows n h = omega arith

refused_grows : (n : ℕ) (a : Answer) → n + 1 < 2 ^ 64 → refused_after n a ≡ n + refusals a
refused_grows n (answer.Frames m) h = omega arith
refused_grows n answer.Empty h = grows n h
refused_grows n answer.Short h = grows n h
refused_grows n (answer.Past i) h = grows n h
refused_grows n (answer.Header i e) h = grows n h

-- the lines of what a lister is told from now on
abbrev pub lines_left : Lister → List Said → List (List Word)
lines_left l said = lines_of l.chunks l.refused l.state said

-- the lines of an event, and then the others
event_lines_lem : (l : Lister) (s : List ℕ) (stage : Stage) (e : Event) (others : List Said) → l.chunks + 1 < 2 ^ 64 → l.refused + 1 < 2 ^ 64
    → lines_left l (event_said s e ++ others) ≡ lines_by l s e ++ lines_left (lister_by l s stage e) others
unfolding lines_of
event_lines_lem l s stage More others h k = refl
event_lines_lem l s stage Pass others h k = refl
event_lines_lem l s stage NoFile others h k = refl
event_lines_lem l s stage Opened others h k = refl
event_lines_lem l s stage (Data n) others h k = rw (grows l.chunks h, refused_grows l.refused (read_of l s n).answer k)
event_lines_lem l s stage TooLong others h k = rw (grows l.chunks h, grows l.refused k)
event_lines_lem l s stage Cut others h k = refl
event_lines_lem l s stage End others h k = refl
event_lines_lem l s stage event.Over others h k = refl

stage_after : (l : Lister) (s : List ℕ) (stage : Stage) (e : Event) → (lister_by l s stage e).stage ≡ stage
stage_after l s stage More = refl
stage_after l s stage Pass = refl
stage_after l s stage NoFile = refl
stage_after l s stage Opened = refl
stage_after l s stage (Data n) = refl
stage_after l s stage TooLong = refl
stage_after l s stage Cut = refl
stage_after l s stage End = refl
stage_after l s stage event.Over = refl

again_goes : (e : Event) → is_again (wants_of e) ≡ goes_on e
again_goes More = refl
again_goes Pass = refl
again_goes NoFile = refl
again_goes Opened = refl
again_goes (Data n) = refl
again_goes TooLong = refl
again_goes Cut = refl
again_goes End = refl
again_goes event.Over = refl

one_refusal : (a : Answer) → refusals a ≤ 1
one_refusal (answer.Frames m) = omega arith
one_refusal answer.Empty = omega arith
one_refusal answer.Short = omega arith
one_refusal (answer.Past i) = omega arith
one_refusal (answer.Header i e) = omega arith

module _ (l : Lister) (s : List ℕ) (stage : Stage) (h : l.chunks + 1 < 2 ^ 64) (k : l.refused ≤ l.chunks) where
  counts_after : (e : Event) → ((lister_by l s stage e).chunks ≡ l.chunks + counted e) × ((lister_by l s stage e).refused ≤ (lister_by l s stage e).chunks)
  counts_after More = (omega arith, k)
  counts_after Pass = (omega arith, k)
  counts_after NoFile = (omega arith, k)
  counts_after Opened = (omega arith, k)
  counts_after (Data n) =
      let a = (read_of l s n).answer in
      (grows l.chunks h, omega (arith, grows l.chunks h, refused_grows l.refused a (omega arith), one_refusal a))
  counts_after TooLong = (grows l.chunks h, omega (arith, grows l.chunks h, grows l.refused (omega arith)))
  counts_after Cut = (omega arith, k)
  counts_after End = (omega arith, k)
  counts_after event.Over = (omega arith, k)

few_turns : (stage : Stage) (m : ℕ) → turns_left stage + m < m + 3
few_turns Start m = omega arith
few_turns Records m = omega arith
few_turns (Skip left) m = omega arith
few_turns Over m = omega arith

-- less is left to do, or the calls end
abbrev Leaves : Lister → List ℕ → Bool → Calls → Type 0
Leaves l s ended c = pick_t c.again (turns_left c.lister.stage + length c.kept < turns_left l.stage + length s) (Little ended c)

call_leaves : (l : Lister) (s : List ℕ) (ended : Bool) → Leaves l s ended (called l s ended)
unfolding called
call_leaves l s ended =
    let t = turn_at l s ended in
    rw (again_goes t.event, stage_after l s t.stage t.event, length-drop t.used s) (turn_moves l.stage ended s).brings

calls_leave : (n : ℕ) (l : Lister) (s : List ℕ) (ended : Bool) → turns_left l.stage + length s < n → Little ended (calls n l s ended)
unfolding calls
calls_leave zero l s ended h = absurd (omega arith)
calls_leave (suc n) l s ended h =
    let c = called l s ended in
    go (called l s ended) (call_leaves l s ended) c.again refl (λ less. calls_leave n c.lister c.kept ended (omega (arith, less)))
  where
    go : (c : Calls) → Leaves l s ended c → (b : Bool) → c.again ≡ b → (turns_left c.lister.stage + length c.kept < turns_left l.stage + length s → Little ended (calls n c.lister c.kept ended))
        → Little ended (pick b (behind c.text (calls n c.lister c.kept ended)) c)
    go c h true e others = others (rw e at h)
    go c h false e others = rw e at h

pub keeps_little : (l : Lister) (s : List ℕ) (ended : Bool) → Little ended (fed l s ended)
keeps_little l s ended = calls_leave (length s + 3) l s ended (few_turns l.stage (length s))

-- what is at hand behind the bytes that are used
drop_take : {A : Type 0} (k m : ℕ) (l : List A) → k ≤ m → drop k (take m l) ≡ take (m - k) (drop k l)
drop_take zero m l h = let z : m - 0 ≡ m = omega arith in rw z
drop_take (suc k) zero l h = absurd (omega arith)
drop_take (suc k) (suc m) [] h = sym (take-nil (suc m - suc k))
drop_take (suc k) (suc m) (x ∷ l) h = let z : suc m - suc k ≡ m - k = omega arith in rw z (drop_take k m l (omega arith))

module _ (f : List ℕ) (small : length f < 2 ^ 64) where
  -- what is still to be put out where a lister stands at a place
  abbrev text_left : Lister → ℕ → List ℕ
  text_left l p = text_of (lines_left l (rest_said f l.stage p))

  record Standing (l : Lister) (p : ℕ) : Type 0 where
    stands : FromStart l.stage p
    few : 2 * (l.chunks + passing l.stage) ≤ p
    fewer : l.refused ≤ l.chunks

  -- one call
  module _ (l : Lister) (p m : ℕ) (here : Standing l p) (inside : p + m ≤ length f) (ended : Bool) (all : ended ≡ true → p + m ≡ length f) where
    abbrev hand : List ℕ
    hand = take m (drop p f)

    size : length hand ≡ m
    size = length-take-le m (drop p f) (rw length-drop (omega arith))

    abbrev turn : Turn
    turn = turn_at l hand ended

    abbrev next : Lister
    next = lister_by l hand turn.stage turn.event

    moves : Moves l.stage ended m turn
    moves = rw size at (turn_moves l.stage ended hand)

    can_grow : l.chunks + 1 < 2 ^ 64
    can_grow = omega (arith, here.few)

    call_says : text_left l p ≡ text_of (lines_by l hand turn.event) ++ text_left next (p + turn.used)
    call_says =
        ap (λ said. text_of (lines_left l said)) (turn_says f p m inside l.stage here.stands ended all)
        ∙ ap text_of (event_lines_lem l hand turn.stage turn.event (rest_said f turn.stage (p + turn.used)) can_grow (omega (arith, here.fewer, can_grow)))
        ∙ text_append (lines_by l hand turn.event) (lines_left next (rest_said f turn.stage (p + turn.used)))
        ∙ rw (stage_after l hand turn.stage turn.event)

    call_stands : Standing next (p + turn.used)
    call_stands =
        let c = counts_after l hand turn.stage can_grow here.fewer turn.event in
        record {
          stands = rw (stage_after l hand turn.stage turn.event) (moves.stands p here.stands);
          few = rw (c.0, stage_after l hand turn.stage turn.event) (omega (arith, here.few, moves.pays));
          fewer = c.1;
        }

    left_there : drop turn.used hand ≡ take (m - turn.used) (drop (p + turn.used) f)
    left_there = drop_take turn.used m (drop p f) moves.within ∙ rw (drop-drop turn.used p f)

  -- a call or a row of them: it comes to a place, and has said what was to be said up to there
  record Comes (l : Lister) (p m : ℕ) (c : Calls) : Type 0 where
    used : ℕ
    within : used ≤ m
    kept : c.kept ≡ take (m - used) (drop (p + used) f)
    says : text_left l p ≡ c.text ++ text_left c.lister (p + used)
    standing : Standing c.lister (p + used)

  one_call_lem : (l : Lister) (p m : ℕ) → Standing l p → p + m ≤ length f → (ended : Bool) → (ended ≡ true → p + m ≡ length f) → Comes l p m (called l (take m (drop p f)) ended)
  unfolding called
  one_call_lem l p m here inside ended all = record {
    used = (turn l p m here inside ended all).used;
    within = (moves l p m here inside ended all).within;
    kept = left_there l p m here inside ended all;
    says = call_says l p m here inside ended all;
    standing = call_stands l p m here inside ended all;
  }

  no_call : (l : Lister) (p m : ℕ) (again : Bool) → Standing l p → Comes l p m (record { text = []; lister = l; kept = take m (drop p f); again = again })
  no_call l p m again here =
      let z : m - 0 ≡ m = omega arith in
      record { used = 0; within = omega arith; kept = rw (z, add-zero p); says = rw (add-zero p); standing = rw (add-zero p) here }

  module _ {l : Lister} {p m : ℕ} {c d : Calls} (a : Comes l p m c) (b : Comes c.lister (p + a.used) (m - a.used) d) where
    then_comes : Comes l p m (behind c.text d)
    then_comes =
        let o : p + a.used + b.used ≡ p + (a.used + b.used) = omega arith in
        let z : m - a.used - b.used ≡ m - (a.used + b.used) = omega arith in
        record {
          used = a.used + b.used;
          within = omega (arith, a.within, b.within);
          kept = rw (o, z) at b.kept;
          says = a.says ∙ ap (λ t. c.text ++ t) b.says ∙ rw o (sym (append_assoc c.text d.text (text_left d.lister (p + (a.used + b.used)))));
          standing = rw o at b.standing;
        }

  calls_say : (n : ℕ) (l : Lister) (p m : ℕ) → Standing l p → p + m ≤ length f → (ended : Bool) → (ended ≡ true → p + m ≡ length f) → Comes l p m (calls n l (take m (drop p f)) ended)
  unfolding calls
  calls_say zero l p m here inside ended all = no_call l p m true here
  calls_say (suc n) l p m here inside ended all =
      let one = one_call_lem l p m here inside ended all in
      let c = called l (take m (drop p f)) ended in
      go one c.again (calls_say n c.lister (p + one.used) (m - one.used) one.standing (omega (arith, one.within)) ended (λ z. omega (arith, one.within, all z)))
    where
      go : {c : Calls} (one : Comes l p m c) (b : Bool) → Comes c.lister (p + one.used) (m - one.used) (calls n c.lister (take (m - one.used) (drop (p + one.used) f)) ended)
          → Comes l p m (pick b (behind c.text (calls n c.lister c.kept ended)) c)
      go one true later = rw one.kept (then_comes one later)
      go one false later = one

  -- all that is at hand is fed
  fed_says : (l : Lister) (p : ℕ) (s others : List ℕ) → Standing l p → p ≤ length f → s ++ others ≡ drop p f → (ended : Bool) → (ended ≡ true → others ≡ []) → Comes l p (length s) (fed l s ended)
  fed_says l p s others here within e ended none =
      let there : take (length s) (drop p f) ≡ s = rw (← e) (take-append_seam s others) in
      let sizes : length s + length others ≡ length f - p = sym (length-append s others) ∙ ap length e ∙ length-drop p f in
      rw there at (calls_say (length s + 3) l p (length s) here (omega arith) ended (λ z. omega (arith, ap length (none z))))

  -- what is kept is what stands before the blocks that are still to come
  kept_there : (p m : ℕ) (others : List ℕ) (c : Calls) (l : Lister) (a : Comes l p m c) → drop (p + m) f ≡ others → c.kept ++ others ≡ drop (p + a.used) f
  kept_there p m others c l a e =
      let o : p + a.used + (m - a.used) ≡ p + m = omega (arith, a.within) in
      rw (a.kept, ← e, ← o, ← drop-drop (m - a.used) (p + a.used) f) (take-append-drop (m - a.used) (drop (p + a.used) f))

  over_silent : (l : Lister) (p : ℕ) → l.stage ≡ Over → text_left l p ≡ []
  unfolding rest_said lines_of text_of
  over_silent l p e = rw e

  arrives_say : (blocks : List (List ℕ)) (l : Lister) (p : ℕ) (kept : List ℕ) → Standing l p → p ≤ length f → kept ++ joined blocks ≡ drop p f → arrives l kept blocks ≡ text_left l p
  unfolding arrives joined
  arrives_say [] l p kept here within e =
      let c = fed_says l p kept [] here within e true (λ z. refl) in
      let over : (fed l kept true).lister.stage ≡ Over = ⊎_elim (λ z. z) (λ z. absurd (true_false z.0)) (keeps_little l kept true) in
      sym (c.says ∙ rw (over_silent (fed l kept true).lister (p + c.used) over) (append-nil (fed l kept true).text))
  arrives_say (block ∷ others) l p kept here within e =
      let s = kept ++ block in
      let e' : s ++ joined others ≡ drop p f = append_assoc kept block (joined others) ∙ e in
      let c = fed_says l p s (joined others) here within e' false (λ z. absurd (true_false (sym z))) in
      let sizes : length s + length (joined others) ≡ length f - p = sym (length-append s (joined others)) ∙ ap length e' ∙ length-drop p f in
      let come : drop (p + length s) f ≡ joined others = sym (drop-drop (length s) p f) ∙ rw (← e') (drop-append_seam s (joined others)) in
      let later = arrives_say others (fed l s false).lister (p + c.used) (fed l s false).kept c.standing (omega (arith, c.within)) (kept_there p (length s) (joined others) (fed l s false) l c come) in
      rw later (sym c.says)

-- the theorem
pub however : (blocks : List (List ℕ)) → length (joined blocks) < 2 ^ 64 → put_out blocks ≡ listing (joined blocks)
unfolding listing rest_said
however blocks small = arrives_say (joined blocks) small blocks fresh_lister 0 [] (record { stands = refl; few = omega arith; fewer = omega arith }) (omega arith) refl
