-- The limits are the smallest and the largest numbers of their kinds, and there is one of each.
-- Assumes nothing.
use Prim.Native.Nat.{ℕ, zero, suc, ◌+◌, ◌-◌, ◌*◌, ◌/◌, ◌^◌, ◌≤◌, ◌<◌, pred, zero-le}
use mathlib.Core.Path.{◌≡◌}
use native.Mathlib.Nat.{pow-succ', le_antisymm, div-le_self, div-lt_iff_lt-mul}
use native.Mathlib.Omega.{arith}
use lib.Pow.{pow_pos, shr-shr}
use borrow.Author.Tests.{leb-true, leb-false, ltb-true, ltb-false, le-leb, lt-ltb}
use Rattle.grammar_tables.specs.Limits.{reaches, falls, Smallest, Largest}
use Rattle.grammar_tables.specs.Tables.{superblocks, least, most}
use Rattle.base_shared.proofs.First.{first_le, first_has_end, none_before}

-- VP9 counts blocks of 8 first, MiCols, and then Sb64Cols: compute_image_size() (VP9 6.2.6)
pub by_blocks : (width : ℕ) → superblocks width ≡ ((width + 7) / 8 + 7) / 8
by_blocks width = omega arith

pub unless : (j k : ℕ) → (k < j → ⊥) → j ≤ k
unless j k h = omega arith

-- a higher power leaves no more
pub fewer : (w j k : ℕ) → j ≤ k → w / 2 ^ k ≤ w / 2 ^ j
fewer w j k h =
    let e : k ≡ j + (k - j) = omega arith in
    rw (e, ← shr-shr) (div-le_self (w / 2 ^ j) (2 ^ (k - j)))

twice : (k : ℕ) → 0 < k → 2 ^ k ≡ 2 * 2 ^ pred k
twice zero h = absurd (omega arith)
twice (suc k) h = pow-succ' 2 k

module _ (w j k : ℕ) where
  smallest_le : Smallest w j → Smallest w k → j ≤ k
  smallest_le a b = unless j k (λ h. omega (arith, a.none_less k h))

  largest_le : Largest w j → Largest w k → j ≤ k
  largest_le a b = unless j k (λ h. omega (arith, b.none_more j h, a.holds (omega arith)))

  -- were j over k, w would be over 64 x 2^(j - 1) and below 4 x 2^j
  smallest_largest : Smallest w j → Largest w k → j ≤ k
  smallest_largest a b =
      unless j k (λ h.
      let below : w < 4 * 2 ^ j = (div-lt_iff_lt-mul (pow_pos j)).0 (b.none_more j h) in
      omega (arith, a.none_less (pred j) (omega arith), twice j (omega arith)))

pub one_smallest : (w j k : ℕ) → Smallest w j → Smallest w k → j ≡ k
one_smallest w j k a b = le_antisymm (smallest_le w j k a b) (smallest_le w k j b a)

pub one_largest : (w j k : ℕ) → Largest w j → Largest w k → j ≡ k
one_largest w j k a b = le_antisymm (largest_le w j k a b) (largest_le w k j b a)

module _ (w : ℕ) (small : w < 2 ^ 32) where
  pub least_smallest : Smallest w (least w)
  unfolding least
  least_smallest = record {
    enough = leb-true _ _ (first_has_end (reaches w) 0 32 (le-leb w (64 * 2 ^ 32) (omega arith)));
    none_less = λ j h. leb-false _ _ (none_before (reaches w) 0 32 j zero-le h);
  }

  pub most_largest : Largest w (most w)
  unfolding most
  most_largest =
      ended _ (ltb-true _ _ (first_has_end (falls w) 0 32 (lt-ltb (w / 2 ^ 33) 4 (omega arith))))
      (λ j h. ltb-false _ _ (none_before (falls w) 0 32 j zero-le h))
    where
      ended : (k : ℕ) → w / 2 ^ suc k < 4 → ((j : ℕ) → j < k → 4 ≤ w / 2 ^ suc j) → Largest w k
      ended k few none = record {
        holds = λ h. (let e : suc (pred k) ≡ k = omega arith in rw e at (none (pred k) (omega arith)));
        none_more = λ j h. omega (arith, fewer w (suc k) j h);
      }

  pub least_most : least w ≤ most w
  least_most = smallest_largest w (least w) (most w) least_smallest most_largest

-- so for every width of 32 bits
pub width_limits : (width : ℕ) → width < 2 ^ 32
    → Smallest (superblocks width) (least (superblocks width)) × Largest (superblocks width) (most (superblocks width))
width_limits width h =
    let small : superblocks width < 2 ^ 32 = omega arith in
    (least_smallest _ small, most_largest _ small)

pub most_le : (w : ℕ) → most w ≤ 32
unfolding most
most_le w = first_le (falls w) 0 32
