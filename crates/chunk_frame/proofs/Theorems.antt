-- The theorems on a single frame, for every chunk, offset, size and state.
-- Assumes nothing.
use Prim.Native.Nat.{ℕ, ◌-◌}
use mathlib.Core.Path.{◌≡◌, refl, sym, subst, ◌∙◌}
use mathlib.Core.Logic.{inl, inr, ⊎_elim}
use mathlib.Core.List.{List}
use native.Mathlib.Omega.{arith}
use lib.ListN.{length, take, drop}
use borrow.Author.Tests.{le-leb}
use Rattle.base_shared.proofs.Order.{below}
use Rattle.base_bits.specs.declared.Refusal.{Refusal}
use Rattle.base_bits.specs.declared.Refusal.TheVariants.{FrameMarker, SyncCode, PastEnd}
use Rattle.base_types.specs.declared.state.ReaderState.{ReaderState}
use Rattle.header_verdict.specs.Verdict.{Verdict, Accepted, Refused, Place, Outside, Inside, place_number}
use Rattle.header_verdict.proofs.Numbers.{one_place}
use Rattle.header_answer.specs.Answer.{HeaderRead, accepted, refused_with}
use Rattle.header_answer.proofs.Accepted.{accepted_is}
use Rattle.header_parser.specs.Answer.{parsed}
use Rattle.header_parser.specs.Demand.{Demanded}
use Rattle.header_parser.proofs.Theorems as header
use Rattle.chunk_frame.specs.Place.{FrameRead, refused_frame, inside_frame, frame_placed}
use Rattle.chunk_frame.specs.Demand.{FrameRefused, LiesOutside, InsideDemanded, FrameDemanded}
use Rattle.chunk_frame.proofs.Steps.{placed_out}

-- two refusals with one number are one
same_refusal : {n : ℕ} {st : ReaderState} {r q : FrameRead} → FrameRefused n st r → FrameRefused n st q → r ≡ q
same_refusal {r = r} {q = q} h k = h.nothing ∙ rw (one_place r.place q.place (h.number ∙ sym k.number)) (sym k.nothing)

module _ (chunk : List ℕ) (offset size : ℕ) (st : ReaderState) where
  abbrev part : List ℕ
  part = take size (drop offset chunk)

  abbrev placed : FrameRead
  placed = frame_placed chunk offset size st

  outside_is : LiesOutside chunk offset size → placed ≡ refused_frame Outside st
  outside_is o = sym (placed_out chunk offset size st o)

  inside_is : (LiesOutside chunk offset size → ⊥) → placed ≡ inside_frame (parsed part st)
  unfolding frame_placed
  inside_is n =
      ⊎_elim (λ h. absurd (n (inl h)))
      (λ h. ⊎_elim (λ k. absurd (n (inr k))) (λ k. rw (le-leb offset (length chunk) h, le-leb size (length chunk - offset) k)) (below (length chunk - offset) size))
      (below (length chunk) offset)

  -- the answer is that of the header which is demanded
  answer_is : (h : HeaderRead) → InsideDemanded chunk offset size st h → placed ≡ inside_frame h
  answer_is h d = inside_is d.0 ∙ rw (header.no_other part st h d.1)

  refused_is : (p : Place) → placed ≡ refused_frame p st → FrameRefused (place_number p) st placed
  refused_is p e = rw e (record { number = refl; frame = refl; nothing = refl })

  -- the answer is what demand 3 asks, and no other is
  pub demanded : FrameDemanded chunk offset size st (frame_placed chunk offset size st)
  demanded = record {
    row_3 = λ o. refused_is Outside (outside_is o);
    row_4 = λ d. refused_is (Inside (Refused FrameMarker)) (answer_is _ d);
    row_5 = λ d. refused_is (Inside (Refused SyncCode)) (answer_is _ d);
    row_6 = λ d. refused_is (Inside (Refused PastEnd)) (answer_is _ d);
    header = λ h after d. answer_is _ d;
  }

  pub no_other : (r : FrameRead) → FrameDemanded chunk offset size st r → r ≡ frame_placed chunk offset size st
  no_other r h = ⊎_elim (λ o. outside (inl o)) (λ n. ⊎_elim (λ o. outside (inr o)) (λ m. inside (λ o. ⊎_elim (λ k. omega arith) (λ k. omega arith) o)) (below (length chunk - offset) size)) (below (length chunk) offset)
    where
      outside : LiesOutside chunk offset size → r ≡ placed
      outside o = same_refusal (h.row_3 o) (demanded.row_3 o)

      refused : (e : Refusal) → InsideDemanded chunk offset size st (refused_with st e) → r ≡ placed
      refused FrameMarker d = same_refusal (h.row_4 d) (demanded.row_4 d)
      refused SyncCode d = same_refusal (h.row_5 d) (demanded.row_5 d)
      refused PastEnd d = same_refusal (h.row_6 d) (demanded.row_6 d)

      inside : (LiesOutside chunk offset size → ⊥) → r ≡ placed
      inside n = go (parsed part st).verdict refl
        where
          go : (v : Verdict) → (parsed part st).verdict ≡ v → r ≡ placed
          go Accepted e =
              let d : InsideDemanded chunk offset size st (accepted (parsed part st).header (parsed part st).state) = (n, subst (Demanded part st) (accepted_is (parsed part st) e) (header.demanded part st)) in
              h.header (parsed part st).header (parsed part st).state d ∙ sym (demanded.header (parsed part st).header (parsed part st).state d)
          go (Refused e) x = refused e (n, subst (Demanded part st) (header.refused_whole part st e x) (header.demanded part st))
