-- A chunk's answer has at most eight frames.
-- Assumes nothing.
use Prim.Native.Nat.{ℕ, ◌≤◌}
use mathlib.Core.Path.{◌≡◌, refl}
use mathlib.Core.List.{List}
use Rattle.base_types.specs.declared.state.ReaderState.{ReaderState}
use Rattle.header_parser.specs.Answer.{parsed}
use Rattle.chunk_index.specs.declared.Answer.{Answer as SplitAnswer}
use Rattle.chunk_index.specs.declared.Answer.TheVariants as split
use Rattle.chunk_index.specs.Split.{split_of}
use Rattle.chunk_index.proofs.Tiles.{count_range}
use Rattle.chunk_judged.specs.Frames.{FaultFound, none, fault, first_fault, frame_read}
use Rattle.chunk_judged.specs.Answer.{accepted_chunk, answered, chunk_by, judged_chunk}
use Rattle.chunk_parser.specs.Answer.{chunk_of}
use Rattle.listing_lister.specs.Lister.{FewFrames}

module _ (s : List ℕ) (st : ReaderState) where
  pub few_frames : FewFrames (chunk_of s st).answer
  unfolding judged_chunk
  few_frames = go (split_of s).answer refl
    where
      found : (n : ℕ) → n ≤ 8 → (f : FaultFound) → FewFrames (answered (accepted_chunk parsed s (split_of s) st n) st f).answer
      found n h none = h
      found n h (fault i e) = tt

      go : (a : SplitAnswer) → (split_of s).answer ≡ a → FewFrames (chunk_by parsed s (split_of s) st a).answer
      go split.Empty e = tt
      go split.Short e = tt
      go (split.Past i) e = tt
      go (split.Frames n) e = found n (count_range s (split_of s) refl n e).1 (first_fault (λ i. (frame_read parsed s (split_of s) st i).verdict) 0 n)
