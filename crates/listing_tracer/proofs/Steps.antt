-- A call, as the code meets it.
-- Assumes nothing.
use Prim.Native.Nat.{ℕ, zero, suc, ◌<◌, ◌≤◌}
use mathlib.Core.Path.{◌≡◌, refl, sym, subst}
use mathlib.Core.Bool.{Bool}
use mathlib.Core.List.{List, [], ◌∷◌}
use native.Mathlib.Omega.{arith}
use Rattle.base_shared.proofs.Other.{NotOne}
use lib.ListN.{length, get_or, take, drop, get_or-eq_default}
use borrow.Author.Tests.{lt-ltb, le-ltb}
use Rattle.chunk_answer.specs.declared.Answer.{Answer}
use Rattle.chunk_answer.specs.declared.Answer.TheVariants as answer
use Rattle.chunk_answer.specs.declared.ChunkRead.{ChunkRead}
use Rattle.chunk_answer.specs.Answer.{chunk_number, chunk_frame}
use Rattle.chunk_parser.specs.Answer.{chunk_of}
use Rattle.ivf_walk.specs.declared.Turn.{Turn}
use Rattle.ivf_walk.specs.Turn.{turn_of}
use Rattle.listing_tracer.specs.declared.Tracer.{Tracer}
use Rattle.listing_tracer.specs.declared.Yields.TheVariants.{Again}
use Rattle.listing_tracer.specs.Tracer.{after_accepted}
use Rattle.listing_tracer.specs.Traced.{quiet, refused_traced, chunk_traced, data_traced, frame_traced, turn_traced, traced_of}

-- an element that is there, whatever stands for one that isn't
pub element : {A : Type 0} (l : List A) (i : ℕ) (d e : A) → i < length l → get_or l i d ≡ get_or l i e
element [] i d e h = absurd (omega arith)
element (x ∷ l) zero d e h = refl
element (x ∷ l) (suc i) d e h = element l i d e (omega arith)

pub past_eight : (l : List ℕ) (i : ℕ) → length l ≡ 8 → 8 ≤ i → 0 ≡ get_or l i 0
past_eight l i e h = sym (get_or-eq_default l 0 (omega arith))

pub other_answer : (t : Tracer) (u : Turn) (r : ChunkRead) (a : Answer) → NotOne answer.Frames a
    → refused_traced t u (chunk_number a) (chunk_frame a) ≡ chunk_traced t u r a
other_answer t u r (answer.Frames n) h = absurd (h n refl)
other_answer t u r answer.Empty h = refl
other_answer t u r answer.Short h = refl
other_answer t u r (answer.Past i) h = refl
other_answer t u r (answer.Header i e) h = refl

pub frames_answer : (t : Tracer) (u : Turn) (r : ChunkRead) (a : Answer) (n : ℕ) → a ≡ answer.Frames n
    → quiet (after_accepted t u.stage r n) u.used Again ≡ chunk_traced t u r a
frames_answer t u r a n e = rw e

pub data_by : (t : Tracer) (s : List ℕ) (u : Turn) (n : ℕ) (r : ChunkRead) → r ≡ chunk_of (take n (drop 12 s)) t.state → chunk_traced t u r r.answer ≡ data_traced t s u n
data_by t s u n r e = subst (λ (x : ChunkRead). chunk_traced t u x x.answer ≡ data_traced t s u n) (sym e) refl

module _ (t : Tracer) (s : List ℕ) (ended : Bool) where
  pub frame_first : t.frame < t.count → frame_traced t ≡ traced_of t s ended
  unfolding traced_of
  frame_first h = rw (lt-ltb t.frame t.count h)

  pub then_turn : t.count ≤ t.frame → turn_traced t s (turn_of t.stage s ended) (turn_of t.stage s ended).event ≡ traced_of t s ended
  unfolding traced_of
  then_turn h = rw (le-ltb t.frame t.count h)

  pub turn_by : (u : Turn) → u ≡ turn_of t.stage s ended → t.count ≤ t.frame → turn_traced t s u u.event ≡ traced_of t s ended
  turn_by u e h = subst (λ (x : Turn). turn_traced t s x x.event ≡ traced_of t s ended) (sym e) (then_turn h)
