-- The sizes that an index holds: where they stand, and what reading one answers.
-- Assumes nothing.
use Prim.Native.Nat.{ℕ, ◌+◌, ◌*◌, ◌<◌, ◌≤◌}
use mathlib.Core.Path.{◌≡◌}
use native.Mathlib.Nat.{suc-mul, mul-le-mul_right, mul-le-mul}
use native.Mathlib.Numerals.{add-one}
use native.Mathlib.Omega.{arith}
use Rattle.chunk_index.specs.Layout.{frames_in, bytes_per_size}

-- size i of n bytes stands before the end of them all
pub size_place : {i count : ℕ} (n : ℕ) → i < count → i * n + n ≤ count * n
size_place {i} {count} n h =
    let e : (i + 1) * n ≡ i * n + n = rw (add-one, suc-mul) in
    omega (arith, mul-le-mul_right {m = i + 1} {n = count} n (omega arith))

-- the sizes take at most 32 bytes
pub sizes_small : (b : ℕ) {count n : ℕ} → count ≡ frames_in b → n ≡ bytes_per_size b → count * n ≤ 32
sizes_small b {count} {n} p q = mul-le-mul {n₁ = count} {m₁ = n} {n₂ = 8} {m₂ = 4} (omega arith) (omega arith)
