-- The loops that find the limits: what each knows once it has come to k.
-- Assumes nothing.
use Prim.Native.Nat.{ℕ, ◌+◌, ◌*◌, ◌/◌, ◌%◌, ◌^◌, ◌≤◌, ◌<◌, zero-le}
use mathlib.Core.Path.{◌≡◌}
use native.Mathlib.Omega.{arith}
use lib.Pow.{shl_exact}
use borrow.Author.Count.{below_more}
use Rattle.grammar_tables.specs.Tables.{least, most}
use Rattle.grammar_tables.proofs.Limits.{unless, fewer, one_smallest, one_largest, least_smallest, most_largest}

-- 64 x 2^j was too little for each j below k, and 64 x 2^26 is enough for any w
pub record Tried (w k : ℕ) : Type 0 where
  pub within : k ≤ 26
  pub none_less : (j : ℕ) → j < k → 64 * 2 ^ j < w

-- w / 2^k was enough, and w / 2^30 is too little for any w
pub record Halved (w k : ℕ) : Type 0 where
  pub within : k ≤ 29
  pub holds : 0 < k → 4 ≤ w / 2 ^ k

module _ (w : ℕ) where
  pub tried_none : Tried w 0
  tried_none = record { within = zero-le; none_less = λ j h. absurd (omega arith) }

  pub halved_none : Halved w 0
  halved_none = record { within = zero-le; holds = λ h. absurd (omega arith) }

module _ (w k : ℕ) (small : w < 2 ^ 32) where
  module _ (l : Tried w k) where
    shifted : (64 * 2 ^ k) % 2 ^ 64 ≡ 64 * 2 ^ k
    shifted = shl_exact {a = 64} 7 k 64 (omega arith) (omega arith)

    pub tried_more : (64 * 2 ^ k) % 2 ^ 64 < w → Tried w (k + 1)
    tried_more h =
        let none : (j : ℕ) → j < k + 1 → 64 * 2 ^ j < w = below_more (λ j. 64 * 2 ^ j < w) k l.none_less (rw shifted at h) in
        record { within = unless (k + 1) 26 (λ o. omega (arith, none 26 o)); none_less = none }

    pub tried_end : w ≤ (64 * 2 ^ k) % 2 ^ 64 → k ≡ least w
    tried_end h = one_smallest w k (least w) (record { enough = rw shifted at h; none_less = l.none_less }) (least_smallest w small)

  pub halved_more : 4 ≤ w / 2 ^ (k + 1) → Halved w (k + 1)
  halved_more h = record { within = unless (k + 1) 29 (λ o. omega (arith, fewer w 30 (k + 1) (omega arith))); holds = λ z. h }

  pub halved_end : Halved w k → w / 2 ^ (k + 1) < 4 → k ≡ most w
  halved_end l h = one_largest w k (most w) (record { holds = l.holds; none_more = λ j o. omega (arith, fewer w (k + 1) j (omega arith)) }) (most_largest w small)
