-- The number of whole bytes, and the field that stands in them.
-- Assumes nothing.
use Prim.Native.Nat.{ℕ, zero, suc, ◌+◌, ◌*◌, ◌%◌, ◌/◌, ◌-◌, ◌^◌, ◌≤◌, ◌<◌}
use mathlib.Core.Path.{◌≡◌, sym, ◌∙◌}
use mathlib.Core.List.{List}
use native.Mathlib.Nat.{pow-suc, div-one, div-eq_of_lt, div-div-eq-div-mul, mul-add-div_right, mul-add-mod_self_right, mod-eq_of_lt, mod-lt, add-zero, one-mul}
use native.Mathlib.Omega.{arith}
use lib.ListN.{get_or}
use lib.Pow.{pow_pos, pow_mono, shl_exact}
use mir.Syntax.{w32}
use mir.Val.{Fits}
use Rattle.base_bits.specs.Bit.{bit_at, number}
use Rattle.base_bits.proofs.Number.{number_lt, number_join}

-- the first k bits of a byte
high_bits : (s : List ℕ) (i k : ℕ) → get_or s i 0 < 256 → k ≤ 8 → number s (8 * i) k ≡ get_or s i 0 / 2 ^ (8 - k)
unfolding number bit_at
high_bits s i zero h l = sym (div-eq_of_lt h)
high_bits s i (suc k) h l =
    let q : (8 * i + k) / 8 ≡ i = omega arith in
    let m : (8 * i + k) % 8 ≡ k = omega arith in
    let e : 8 - k ≡ suc (7 - k) = omega arith in
    let z : 8 - suc k ≡ 7 - k = omega arith in
    let y : get_or s i 0 / 2 ^ (8 - k) ≡ get_or s i 0 / 2 ^ (7 - k) / 2 = rw (e, pow-suc, ← div-div-eq-div-mul) in
    rw (q, m, z) (omega (arith, high_bits s i k h (omega arith), y))

byte_number : (s : List ℕ) (i : ℕ) → get_or s i 0 < 256 → number s (8 * i) 8 ≡ get_or s i 0
byte_number s i h = high_bits s i 8 h (omega arith) ∙ div-one (get_or s i 0)

pub one_byte_more : (s : List ℕ) (q k : ℕ) → get_or s (q + k) 0 < 256 → number s (8 * q) (8 * (k + 1)) ≡ number s (8 * q) (8 * k) * 256 + get_or s (q + k) 0
one_byte_more s q k h =
    let e : 8 * (k + 1) ≡ 8 * k + 8 = omega arith in
    let p : 8 * q + 8 * k ≡ 8 * (q + k) = omega arith in
    rw e (number_join s (8 * q) (8 * k) 8 ∙ rw (p, byte_number s (q + k) h))

-- the field of n bits behind r bits and before t
field_within : (s : List ℕ) (p r n t : ℕ) → number s p (r + n + t) / 2 ^ t % 2 ^ n ≡ number s (p + r) n
field_within s p r n t =
    let behind : number s (p + (r + n)) t / 2 ^ t ≡ 0 = div-eq_of_lt (number_lt s (p + (r + n)) t) in
    rw (number_join s p (r + n) t, mul-add-div_right (pow_pos t), behind, add-zero, number_join s p r n, mul-add-mod_self_right, mod-eq_of_lt (number_lt s (p + r) n))

-- `1 << n`, which the machine has as a product cut to 64 bits
pub one_shl : (n : ℕ) → n ≤ 31 → 1 * 2 ^ n % 2 ^ 64 ≡ 2 ^ n
one_shl n h = shl_exact {a = 1} 1 n 64 (omega arith) (omega arith) ∙ one-mul (2 ^ n)

-- what is left of a number under 2^n fits 32 bits
pub cut_fits : (x n : ℕ) → n ≤ 31 → Fits w32 (x % (1 * 2 ^ n % 2 ^ 64))
cut_fits x n h = rw (one_shl n h) (record { fits = omega (arith, mod-lt x (pow_pos n), pow_mono {i = n} {j = 31} h) })

-- the n bits from p on, out of the whole bytes that hold them
pub field_taken : (s : List ℕ) (p n : ℕ) {w : ℕ} → n ≤ 31 → w ≡ number s (8 * (p / 8)) (8 * ((p % 8 + n + 7) / 8)) → w / 2 ^ ((p % 8 + n + 7) / 8 * 8 - (p % 8 + n)) % (1 * 2 ^ n % 2 ^ 64) ≡ number s p n
field_taken s p n h e =
    let bits : 8 * ((p % 8 + n + 7) / 8) ≡ p % 8 + n + ((p % 8 + n + 7) / 8 * 8 - (p % 8 + n)) = omega arith in
    let place : 8 * (p / 8) + p % 8 ≡ p = omega arith in
    rw (one_shl n h, e, bits, field_within, place)
