-- Numbers of bytes, low byte first, as the loop that gathers them meets them.
-- Assumes nothing.
use Prim.Native.Nat.{ℕ, zero, suc, ◌+◌, ◌-◌, ◌*◌, ◌^◌, ◌<◌, ◌≤◌}
use mathlib.Core.Path.{◌≡◌, refl, sym, ◌∙◌}
use mathlib.Core.Bool.{true, false}
use mathlib.Core.List.{List}
use native.Mathlib.Nat.{pow-le-pow_right, pow-succ'}
use native.Mathlib.Omega.{arith}
use lib.ListN.{length, get_or}
use borrow.Author.Tests.{le-leb, lt-leb, le-ltb, lt-ltb}
use Rattle.base_little.specs.declared.LittleError.{LittleError}
use Rattle.base_little.specs.declared.LittleError.TheVariants.{Short, TooWide}
use Rattle.std.specs.Prelude.{Result, Ok, Err}
use Rattle.base_little.specs.Little.{little, holds, read_little}

-- one more byte in front
pub little_more : (s : List ℕ) (at n k : ℕ) → 0 < k → k ≤ n → little s (at + (k - 1)) (n - (k - 1)) ≡ get_or s (at + (k - 1)) 0 + 256 * little s (at + k) (n - k)
unfolding little
little_more s at n k h l =
    let e : n - (k - 1) ≡ suc (n - k) = omega arith in
    let f : at + (k - 1) + 1 ≡ at + k = omega arith in
    rw (e, f)

pub little_none : (s : List ℕ) (at n : ℕ) → 0 ≡ little s (at + n) (n - n)
unfolding little
little_none s at n = let e : n - n ≡ 0 = omega arith in rw e

-- 256 to the number of bytes, while one is left of at most eight
pub room_left_lem : (n k : ℕ) → n ≤ 8 → 0 < k → 256 ^ (n - k) ≤ 256 ^ 7
room_left_lem n k h l = pow-le-pow_right {n = 256} (omega arith) {i = n - k} {j = 7} (omega arith)

pub room_more : (n k : ℕ) → 0 < k → k ≤ n → 256 ^ (n - (k - 1)) ≡ 256 * 256 ^ (n - k)
room_more n k h l = let e : n - (k - 1) ≡ suc (n - k) = omega arith in rw (e, pow-succ')

pub room_none : (n : ℕ) → 0 < 256 ^ (n - n)
room_none n = let e : n - n ≡ 0 = omega arith in rw e (omega arith)

holds_yes : (s : List ℕ) (at n : ℕ) → at + n ≤ length s → holds s at n ≡ true
unfolding holds
holds_yes s at zero h = refl
holds_yes s at (suc n) h = lt-ltb (at + n) (length s) (omega arith)

holds_no : (s : List ℕ) (at n : ℕ) → (n ≡ 0 → ⊥) → length s < at + n → holds s at n ≡ false
unfolding holds
holds_no s at zero z h = absurd (z refl)
holds_no s at (suc n) z h = le-ltb (at + n) (length s) (omega arith)

-- the four answers
module _ (s : List ℕ) (at n : ℕ) where
  pub little_wide : 8 < n → Err TooWide ≡ read_little s at n
  unfolding read_little
  little_wide h = simp (lt-leb n 8 h)

  pub little_nothing : n ≡ 0 → Ok 0 ≡ read_little s at n
  unfolding read_little holds little
  little_nothing h = simp h

  pub little_short : n ≤ 8 → (n ≡ 0 → ⊥) → length s < at + n → Err Short ≡ read_little s at n
  unfolding read_little
  little_short h z l = simp (le-leb n 8 h, holds_no s at n z l)

  pub little_value : (x : ℕ) → x ≡ little s at n → n ≤ 8 → at + n ≤ length s → Ok x ≡ read_little s at n
  unfolding read_little
  little_value x e h l = simp (le-leb n 8 h, holds_yes s at n l, e)

  -- what is there is read
  pub little_read : (r : Result ℕ LittleError) → r ≡ read_little s at n → n ≤ 8 → at + n ≤ length s → r ≡ Ok (little s at n)
  little_read r e h l = e ∙ sym (little_value _ refl h l)
