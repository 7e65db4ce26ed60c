-- A text put piece by piece: what is left to put, from here on, gives what the whole gives.
-- Assumes nothing.
use Prim.Native.Nat.{ℕ}
use mathlib.Core.Path.{◌≡◌, refl, ◌∙◌}
use mathlib.Core.List.{List, [], ◌++◌}
use lib.ListN.{length}
use Rattle.base_bytes.specs.Put.{Written}
use Rattle.base_bytes.proofs.Append.{then, nothing, written_length}

-- of the whole, put at `at` into out₀, so much is left, which goes on at `next`
pub record Left (out₀ : List ℕ) (at : ℕ) (whole out : List ℕ) (next : ℕ) (left : List ℕ) : Type 0 where
  pub same : length out ≡ length out₀
  pub rest : (q : ℕ) (after : List ℕ) → Written out next left q after → Written out₀ at whole q after

pub left_all : {out whole : List ℕ} {at : ℕ} → Left out at whole out at whole
left_all = record { same = refl; rest = λ q after w. w }

module _ {out₀ : List ℕ} {at : ℕ} {whole out : List ℕ} {next : ℕ} {left : List ℕ} (l : Left out₀ at whole out next left) where
  pub left_more : {piece others out₁ : List ℕ} {next₁ : ℕ} → left ≡ piece ++ others → Written out next piece next₁ out₁ → Left out₀ at whole out₁ next₁ others
  left_more e one = record { same = written_length one ∙ l.same; rest = λ q after w. l.rest q after (rw e (then one w)) }

  pub left_none : left ≡ [] → Written out₀ at whole next out
  left_none e = l.rest next out (rw e (nothing out next))
