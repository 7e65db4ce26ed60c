-- The last byte's fields are its bits, high bit first.
-- Assumes nothing.
use Prim.Native.Nat.{ℕ, ◌+◌, ◌/◌, ◌%◌, ◌<◌}
use mathlib.Core.Path.{◌≡◌}
use mathlib.Core.Logic.{◌↔◌}
use mathlib.Core.List.{[], ◌∷◌, ◌++◌}
use native.Mathlib.Omega.{arith}
use lib.ListN.{take}
use Rattle.base_bits.specs.Bit as Bit
use Rattle.base_bits.specs.Bit.{spell}
use Rattle.chunk_index.specs.Layout.{marker, bytes_per_size, frames_in}

-- superframe_marker, bytes_per_framesize_minus_1, frames_in_superframe_minus_1
pub header_bits : (b m n k : ℕ) → marker b ≡ m → bytes_per_size b ≡ n + 1 → frames_in b ≡ k + 1 → spell 8 b ≡ spell 3 m ++ (spell 2 n ++ spell 3 k)
unfolding Bit.spell
header_bits b m n k p q r =
    let e : b / 2 / 2 / 2 / 2 / 2 ≡ m = omega arith in
    let f : b / 2 / 2 / 2 / 2 % 2 ≡ n / 2 % 2 = omega arith in
    let g : b / 2 / 2 / 2 % 2 ≡ n % 2 = omega arith in
    let h : b / 2 / 2 % 2 ≡ k / 2 / 2 % 2 = omega arith in
    let i : b / 2 % 2 ≡ k / 2 % 2 = omega arith in
    let j : b % 2 ≡ k % 2 = omega arith in
    rw (e, f, g, h, i, j)

-- a byte's marker is 6 exactly if it starts with bits 110
pub starts_110 : (b : ℕ) → b < 256 → (marker b ≡ 6) ↔ (take 3 (spell 8 b) ≡ 1 ∷ 1 ∷ 0 ∷ [])
unfolding Bit.spell
starts_110 b l = (
  λ h.
      let e : b / 2 / 2 / 2 / 2 / 2 / 2 / 2 % 2 ≡ 1 = omega arith in
      let f : b / 2 / 2 / 2 / 2 / 2 / 2 % 2 ≡ 1 = omega arith in
      let g : b / 2 / 2 / 2 / 2 / 2 % 2 ≡ 0 = omega arith in
      rw (e, f, g),
  λ h.
      let e : b / 2 / 2 / 2 / 2 / 2 / 2 / 2 % 2 ≡ 1 = cc in
      let f : b / 2 / 2 / 2 / 2 / 2 / 2 % 2 ≡ 1 = cc in
      let g : b / 2 / 2 / 2 / 2 / 2 % 2 ≡ 0 = cc in
      omega arith,
)
