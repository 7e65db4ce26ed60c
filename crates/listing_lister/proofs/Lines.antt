-- Lines put after lines.
-- Assumes nothing.
use Prim.Native.Nat.{ℕ, zero, suc, ◌+◌, ◌<◌}
use mathlib.Core.Path.{◌≡◌, refl}
use mathlib.Core.List.{List, [], ◌∷◌, ◌++◌}
use native.Mathlib.Numerals.{add-one}
use native.Mathlib.Omega.{arith}
use lib.ListN.{length, get_or}
use Rattle.base_shared.specs.Lists.{values_of}
use Rattle.base_bytes.specs.Put.{Written}
use Rattle.base_bytes.proofs.Append.{then, nothing}
use Rattle.base_types.specs.declared.header.Header.{Header}
use Rattle.base_types.specs.Header.{default_header}
use Rattle.text_frame_line.specs.Frame.{frame_line}
use Rattle.listing_file.specs.Chunk.{line_from}
use Rattle.text_line.specs.Line.{Word, line_text, text_of}
use Rattle.text_line.proofs.Lines.{text_append, text_one}

pub no_line : (out : List ℕ) (at : ℕ) → Written out at (text_of []) at out
unfolding text_of
no_line out at = nothing out at

module _ {out out₁ : List ℕ} {at at₁ : ℕ} where
  pub a_line : (l : List Word) → Written out at (line_text l) at₁ out₁ → Written out at (text_of (l ∷ [])) at₁ out₁
  a_line l w = rw (text_one l) w

  pub line_more : (ls : List (List Word)) (l : List Word) {out₂ : List ℕ} {at₂ : ℕ} → Written out at (text_of ls) at₁ out₁ → Written out₁ at₁ (line_text l) at₂ out₂
      → Written out at (text_of (ls ++ (l ∷ []))) at₂ out₂
  line_more ls l v w = rw (text_append ls (l ∷ []), text_one l) (then v w)

  pub frame_more : (g : ℕ → List Word) (i : ℕ) {out₂ : List ℕ} {at₂ : ℕ} → Written out at (text_of (values_of g i)) at₁ out₁ → Written out₁ at₁ (line_text (g i)) at₂ out₂
      → Written out at (text_of (values_of g (i + 1))) at₂ out₂
  unfolding values_of
  frame_more g i v w = rw (add-one i) (line_more (values_of g i) (g i) v w)

-- an element that is there, whatever stands for one that isn't
element : {A : Type 0} (l : List A) (i : ℕ) (d e : A) → i < length l → get_or l i d ≡ get_or l i e
element [] i d e h = absurd (omega arith)
element (x ∷ l) zero d e h = refl
element (x ∷ l) (suc i) d e h = element l i d e (omega arith)

pub frame_put : {out out₁ : List ℕ} {at at₁ : ℕ} (chunk : ℕ) (places sizes : List ℕ) (headers : List Header) (i : ℕ) (d : Header) → i < length headers
    → Written out at (line_text (frame_line chunk i (get_or places i 0) (get_or sizes i 0) (get_or headers i d))) at₁ out₁
    → Written out at (line_text (line_from chunk places sizes headers i)) at₁ out₁
frame_put chunk places sizes headers i d h w = rw (element headers i default_header d h) w

pub no_frame_lem : (g : ℕ → List Word) (out : List ℕ) (at : ℕ) → Written out at (text_of (values_of g 0)) at out
unfolding values_of
no_frame_lem g out at = no_line out at
