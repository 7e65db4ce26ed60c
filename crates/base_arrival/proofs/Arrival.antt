-- One law for any machine that is called on a file as it arrives: calls that each put out the next of what is to be put
-- out, and use up what is at hand, put out all of it, whatever the blocks are.
-- Assumes nothing.
use Prim.Native.Nat.{ℕ, zero, suc, ◌+◌, ◌-◌, ◌<◌, ◌≤◌}
use mathlib.Core.Path.{◌≡◌, refl, sym, ap, ◌∙◌}
use mathlib.Core.Logic.{◌⊎◌, ⊎_elim}
use mathlib.Core.Bool.{Bool, true, false}
use mathlib.Core.List.{List, [], ◌∷◌, ◌++◌, append_assoc, append-nil}
use native.Mathlib.Nat.{add-zero}
use native.Mathlib.Omega.{arith}
use lib.ListN.{length, take, drop, length-append, length-drop, take-append-drop}
use lib.Seq.{drop-drop, take-append_seam, drop-append_seam}
use Rattle.base_shared.specs.Choice.{pick, pick_t}
use Rattle.base_shared.proofs.Parts.{drop_take}
use Rattle.base_arrival.specs.Arrival.{joined, Call, Calls, behind, calls, arrives}

true_false : true ≡ false → ⊥
true_false e = let z : ◌≡◌ {A = ℕ} 0 1 = ap (λ b. pick b 0 1) e in omega arith

-- what is so at the file's end
pub at_end : {P Q : Type 0} → P ⊎ ((true ≡ false) × Q) → P
at_end = ⊎_elim (λ z. z) (λ z. absurd (true_false z.0))

module _ {S A : Type 0} (call : S → List ℕ → Bool → Call S A) where
  -- Where calls end. Fit: what every machine has that comes up. calls_left: more calls than are left to it with so many
  -- bytes at hand. Stops: how it stands, with how many bytes at hand, where it wants no other call.
  module _ (Fit : S → Type 0) (calls_left : S → ℕ → ℕ) (Stops : Bool → S → ℕ → Type 0) where
    pub record Brings (t : S) (s : List ℕ) (ended : Bool) (c : Call S A) : Type 0 where
      pub fit : Fit c.next
      pub goes : pick_t c.again (calls_left c.next (length s - c.used) < calls_left t (length s)) (Stops ended c.next (length s - c.used))

    module _ (brings : (t : S) (s : List ℕ) (ended : Bool) → Fit t → Brings t s ended (call t s ended)) where
      pub calls_stop : (n : ℕ) (t : S) (s : List ℕ) (ended : Bool) → Fit t → calls_left t (length s) < n
          → Stops ended (calls call n t s ended).next (length (calls call n t s ended).kept)
      unfolding calls
      calls_stop zero t s ended fit h = absurd (omega arith)
      calls_stop (suc n) t s ended fit h =
          let c = call t s ended in
          let b = brings t s ended fit in
          go c b.goes c.again refl (λ less. calls_stop n c.next (drop c.used s) ended b.fit less)
        where
          go : (c : Call S A) → pick_t c.again (calls_left c.next (length s - c.used) < calls_left t (length s)) (Stops ended c.next (length s - c.used))
              → (b : Bool) → c.again ≡ b
              → (calls_left c.next (length (drop c.used s)) < n → Stops ended (calls call n c.next (drop c.used s) ended).next (length (calls call n c.next (drop c.used s) ended).kept))
              → let r = pick b (calls call n c.next (drop c.used s) ended) (record { out = []; next = c.next; kept = drop c.used s }) in Stops ended r.next (length r.kept)
          go c goes true e others = others (rw length-drop (omega (arith, h, rw e at goes)))
          go c goes false e others = rw length-drop (rw e at goes)

  -- What calls put out of the file f. left: what is still to be put out where a machine stands at a place. Standing: what
  -- holds of it there.
  module _ (f : List ℕ) (left : S → ℕ → List A) (Standing : S → ℕ → Type 0) where
    -- a call comes to a place, and puts out what was to be put out up to there
    pub record Says (t : S) (p m : ℕ) (c : Call S A) : Type 0 where
      pub within : c.used ≤ m
      pub says : left t p ≡ c.out ++ left c.next (p + c.used)
      pub standing : Standing c.next (p + c.used)

    -- so do calls in a row
    record Comes (t : S) (p m : ℕ) (c : Calls S A) : Type 0 where
      used : ℕ
      within : used ≤ m
      kept : c.kept ≡ take (m - used) (drop (p + used) f)
      says : left t p ≡ c.out ++ left c.next (p + used)
      standing : Standing c.next (p + used)

    no_call : (t : S) (p m : ℕ) → Standing t p → Comes t p m (record { out = []; next = t; kept = take m (drop p f) })
    no_call t p m here =
        let z : m - 0 ≡ m = omega arith in
        record { used = 0; within = omega arith; kept = rw (z, add-zero p); says = rw (add-zero p); standing = rw (add-zero p) here }

    then_comes : {t : S} {p m : ℕ} {c : Call S A} {d : Calls S A} → Says t p m c → Comes c.next (p + c.used) (m - c.used) d → Comes t p m (behind c.out d)
    then_comes {t} {p} {m} {c} {d} a b =
        let o : p + c.used + b.used ≡ p + (c.used + b.used) = omega arith in
        let z : m - c.used - b.used ≡ m - (c.used + b.used) = omega arith in
        record {
          used = c.used + b.used;
          within = omega (arith, a.within, b.within);
          kept = rw (o, z) at b.kept;
          says = a.says ∙ ap (λ others. c.out ++ others) b.says ∙ rw o (sym (append_assoc c.out d.out (left d.next (p + (c.used + b.used)))));
          standing = rw o at b.standing;
        }

    module _ (says : (t : S) (p m : ℕ) → Standing t p → p + m ≤ length f → (ended : Bool) → (ended ≡ true → p + m ≡ length f) → Says t p m (call t (take m (drop p f)) ended)) where
      calls_say : (n : ℕ) (t : S) (p m : ℕ) → Standing t p → p + m ≤ length f → (ended : Bool) → (ended ≡ true → p + m ≡ length f) → Comes t p m (calls call n t (take m (drop p f)) ended)
      unfolding calls
      calls_say zero t p m here inside ended all = no_call t p m here
      calls_say (suc n) t p m here inside ended all =
          let c = call t (take m (drop p f)) ended in
          let one = says t p m here inside ended all in
          let kept : drop c.used (take m (drop p f)) ≡ take (m - c.used) (drop (p + c.used) f) = drop_take c.used m (drop p f) ∙ rw (drop-drop c.used p f) in
          rw kept (then_comes one (go c.again one.standing (calls_say n c.next (p + c.used) (m - c.used) one.standing (omega (arith, one.within)) ended (λ z. omega (arith, one.within, all z)))))
        where
          go : {u : S} {q k : ℕ} {d : Calls S A} (b : Bool) → Standing u q → Comes u q k d → Comes u q k (pick b d (record { out = []; next = u; kept = take k (drop q f) }))
          go true here later = later
          go {u} {q} {k} false here later = no_call u q k here

      -- all that is at hand
      hand_says : (n : ℕ) (t : S) (p : ℕ) (s others : List ℕ) → Standing t p → p ≤ length f → s ++ others ≡ drop p f → (ended : Bool) → (ended ≡ true → others ≡ []) → Comes t p (length s) (calls call n t s ended)
      hand_says n t p s others here within e ended none =
          let there : take (length s) (drop p f) ≡ s = rw (← e) (take-append_seam s others) in
          let sizes : length s + length others ≡ length f - p = sym (length-append s others) ∙ ap length e ∙ length-drop p f in
          rw there at (calls_say n t p (length s) here (omega arith) ended (λ z. omega (arith, ap length (none z))))

      -- what is kept is what stands before the blocks that are still to come
      kept_there : (t : S) (p : ℕ) (s others : List ℕ) (c : Calls S A) (a : Comes t p (length s) c) → s ++ others ≡ drop p f → c.kept ++ others ≡ drop (p + a.used) f
      kept_there t p s others c a e =
          let o : p + a.used + (length s - a.used) ≡ p + length s = omega (arith, a.within) in
          let come : others ≡ drop (p + length s) f = sym (sym (drop-drop (length s) p f) ∙ rw (← e) (drop-append_seam s others)) in
          rw (a.kept, come, ← o, ← drop-drop (length s - a.used) (p + a.used) f) (take-append-drop (length s - a.used) (drop (p + a.used) f))

      -- all of it is put out if the calls at the file's end stop where nothing is left
      pub arrives_say : (most : ℕ → ℕ) → ((t : S) (p : ℕ) (s : List ℕ) → Standing t p → let c = calls call (most (length s)) t s true in (q : ℕ) → left c.next q ≡ [])
          → (blocks : List (List ℕ)) (t : S) (p : ℕ) (kept : List ℕ) → Standing t p → p ≤ length f → kept ++ joined blocks ≡ drop p f → arrives call most t kept blocks ≡ left t p
      unfolding arrives joined
      arrives_say most stops [] t p kept here within e =
          let c = calls call (most (length kept)) t kept true in
          let a = hand_says (most (length kept)) t p kept [] here within e true (λ z. refl) in
          sym (a.says ∙ rw (stops t p kept here (p + a.used)) (append-nil c.out))
      arrives_say most stops (block ∷ others) t p kept here within e =
          let s = kept ++ block in
          let e' : s ++ joined others ≡ drop p f = append_assoc kept block (joined others) ∙ e in
          let c = calls call (most (length s)) t s false in
          let a = hand_says (most (length s)) t p s (joined others) here within e' false (λ z. absurd (true_false (sym z))) in
          let sizes : length s + length (joined others) ≡ length f - p = sym (length-append s (joined others)) ∙ ap length e' ∙ length-drop p f in
          let later = arrives_say most stops others c.next (p + a.used) c.kept a.standing (omega (arith, a.within)) (kept_there t p s (joined others) c a e') in
          rw later (sym a.says)
